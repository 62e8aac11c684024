-- Paragraph takers: takers of five orders.
use Rattle.std.specs.Prelude.{ℕ, Bool, true, false, ◌||◌, List, [], ◌==◌}
use Rattle.orders.specs.Meaning.{Kind, Meaning}
use Rattle.orders.specs.Lists.{each}

pub data Order : Type 0 where
  -- at a quote depth
  opens : ℕ → Order
  -- a text byte
  texts : ℕ → Order
  -- by the number of the paragraph
  ends : ℕ → Order
  gives_up : ℕ → Order
  finishes : Order

abbrev pub closes : Order → Bool
closes (opens d) = false
closes (texts b) = false
closes (ends n) = false
closes (gives_up n) = false
closes finishes = true

abbrev pub counts : Order → Bool
counts (opens d) = false
counts (texts b) = true
counts (ends n) = false
counts (gives_up n) = false
counts finishes = false

abbrev pub paragraphs : Kind
paragraphs = record { Order = Order; closes = closes; counts = counts; Also = Unit {0} }

-- a paragraph taker, by what its foot is a list of
abbrev pub Taker : Type 0 → Type 0
Taker E = Meaning paragraphs E

-- an order for each byte of a chunk
abbrev pub text_orders : List ℕ → List Order
text_orders bs = each texts bs []

-- a byte that may not be text: 00, 0A and 0D
abbrev pub barred : ℕ → Bool
barred b = b == 0 || b == 10 || b == 13

-- the greatest quote depth
abbrev pub deepest : ℕ
deepest = 100
