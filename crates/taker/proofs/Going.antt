-- Text bytes, none of which closes.
use Rattle.std.proofs.Common.{ℕ, false, List, [], ◌∷◌, refl}
use Rattle.orders.proofs.Sending.{Going, none, going}
use Rattle.taker.specs.Paragraph.{paragraphs, text_orders}

pub texts_going : (bs : List ℕ) → Going paragraphs (text_orders bs) false
texts_going [] = none
texts_going (b ∷ bs) = going refl (texts_going bs)
