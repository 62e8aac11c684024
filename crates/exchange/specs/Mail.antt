-- A mail in memory, and the orders that send it.
use Rattle.std.specs.Prelude.{ℕ, ◌+◌, min, cond, List, [], ◌∷◌, ◌++◌, length, take, drop, nat_le}
use Rattle.fault.specs.Faults.{most}
use Rattle.taker.specs.Paragraph.{Order, opens, ends, finishes, text_orders}
use Rattle.store.specs.declared.record.Record.{Record}

-- a part of a text; none where it leaves the text
abbrev pub part_of : List ℕ → ℕ → ℕ → List ℕ
part_of text start n = cond (nat_le (start + n) (length text)) (take n (drop start text)) []

-- a paragraph opened, its text, and its end by the number n
abbrev pub paragraph_orders : List ℕ → Record → ℕ → List Order
paragraph_orders text r n = opens r.depth ∷ (text_orders (part_of text r.start r.length) ++ ends n ∷ [])

-- paragraphs one after another, of which the first has the number n
abbrev pub paragraphs_orders : List ℕ → ℕ → List Record → List Order
paragraphs_orders text n [] = []
paragraphs_orders text n (r ∷ rs) = paragraph_orders text r (min n most) ++ paragraphs_orders text (n + 1) rs

-- and a finish behind them
abbrev pub mail_orders : List ℕ → List Record → List Order
mail_orders text rs = paragraphs_orders text 1 rs ++ finishes ∷ []
