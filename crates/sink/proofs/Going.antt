-- Bytes to put, with a close behind them or none.
use Rattle.std.proofs.Common.{◌≡◌, ℕ, Bool, true, false, List, [], ◌∷◌, ◌++◌, refl, ap}
use Rattle.orders.proofs.Sending.{Going, none, closing, going}
use Rattle.sink.specs.Sink.{Order, put, close, bytes, down}

pub down_going : (bs : List ℕ) (c : Bool) → Going bytes (down bs c) c
down_going [] false = none
down_going [] true = closing refl
down_going (b ∷ bs) c = going refl (down_going bs c)

pub down_close : (bs : List ℕ) → down bs true ≡ down bs false ++ (close ∷ [])
down_close [] = refl
down_close (b ∷ bs) = ap (λ (l : List Order). put b ∷ l) (down_close bs)
