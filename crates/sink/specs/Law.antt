-- The law of byte sinks.
use Rattle.std.specs.Prelude.{◌≡◌, ℕ, true, List, length, None}
use Rattle.orders.specs.Meaning.{bars, ending}
use Rattle.orders.specs.Permits.{Permitted}
use Rattle.orders.specs.Lists.{addition}
use Rattle.orders.specs.Laws.{Sound}
use Rattle.undo.specs.Undoing.{undone, whole}
use Rattle.sink.specs.Sink.{Sink, down}

-- a sink whose foot is empty accepts the bytes and a close behind them, and then has this foot
pub record Accepts (m : Sink) (bs foot : List ℕ) : Type 0 where
  pub added : addition m.adds (down bs true) ≡ record { items = foot; fault = None }
  pub permitted : Permitted (bars m.fixed) foot
  pub closable : ending m.fixed foot ≡ None

-- what a fresh sink accepts and closes on comes back unaltered from its fresh undoing pile, which may then stop
pub record Lawful (m : Sink) : Type 0 where
  pub sound : Sound m
  pub back : m.fresh ≡ true → (bs foot : List ℕ) → Accepts m bs foot → undone m.fixed.also foot ≡ whole bs (length foot)
