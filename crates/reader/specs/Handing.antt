-- Events handed on to a taker, to the first refusal.
use Rattle.std.specs.Prelude.{ℕ, List, [], ◌∷◌, Some, None, Option}
use Rattle.fault.specs.declared.fault.Fault.{Fault}
use Rattle.orders.specs.Steps.{after, verdict}
use Rattle.taker.specs.Paragraph.{Order, opens, texts, ends, Taker}
use Rattle.taker.specs.Events.{Event, opened, text, ended}

-- an event as an order: an end names the number n of the open paragraph
abbrev pub as_order : ℕ → Event → Order
as_order n (opened d) = opens d
as_order n (text b) = texts b
as_order n ended = ends n

abbrev pub more_unless : Option Fault → List Order → List Order
more_unless None os = os
more_unless (Some f) os = []

-- what was made of events: the taker then, the number that the last accepted open answered, and the refusal
pub record Handing (E : Type 0) : Type 0 where
  pub taker : Taker E
  pub number : ℕ
  pub fault : Option Fault

module _ {E : Type 0} where
  -- the number of the open paragraph behind an accepted event
  abbrev pub number_on : Taker E → ℕ → Event → ℕ
  number_on t n (opened d) = t.says [] (opens d)
  number_on t n (text b) = n
  number_on t n ended = n

  abbrev pub handed_by : Option Fault → Taker E → ℕ → Handing E → Handing E
  handed_by None t n rest = rest
  handed_by (Some f) t n rest = record { taker = t; number = n; fault = Some f }

  abbrev pub hand : Taker E → ℕ → List Event → Handing E
  hand t n [] = record { taker = t; number = n; fault = None }
  hand t n (e ∷ es) = handed_by (verdict t (as_order n e)) (after t (as_order n e)) n (hand (after t (as_order n e)) (number_on t n e) es)

  -- the orders that events come to, through the first that is refused
  abbrev pub orders_for : Taker E → ℕ → List Event → List Order
  orders_for t n [] = []
  orders_for t n (e ∷ es) = as_order n e ∷ more_unless (verdict t (as_order n e)) (orders_for (after t (as_order n e)) (number_on t n e) es)
