-- Byte sinks: takers of bytes, with an undoing pile.
use Rattle.std.specs.Prelude.{ℕ, Bool, true, false, List, [], ◌∷◌}
use Rattle.orders.specs.Meaning.{Kind, Meaning}
use Rattle.orders.specs.Lists.{each}
use Rattle.undo.specs.Undoing.{Undoing}

pub data Order : Type 0 where
  put : ℕ → Order
  close : Order

abbrev pub closes : Order → Bool
closes (put b) = false
closes close = true

abbrev pub counts : Order → Bool
counts (put b) = true
counts close = false

-- a byte sink also means its fresh undoing pile
abbrev pub bytes : Kind
bytes = record { Order = Order; closes = closes; counts = counts; Also = Undoing }

abbrev pub Sink : Type 0
Sink = Meaning bytes ℕ

abbrev pub last : Bool → List Order
last true = close ∷ []
last false = []

-- bytes to put, and a close behind them if the flag says so
abbrev pub down : List ℕ → Bool → List Order
down bs c = each put bs (last c)
