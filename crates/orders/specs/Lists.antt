-- Lists of orders: handed on one by one to the first refusal, and what they add as a whole.
use Rattle.std.specs.Prelude.{ℕ, ◌+◌, Bool, List, [], ◌∷◌, ◌++◌, Some, None, Option}
use Rattle.fault.specs.declared.fault.Fault.{Fault}
use Rattle.fault.specs.Answers.{or_else}
use Rattle.orders.specs.Meaning.{Kind, Meaning, Added, Adds, bars, ending, later}
use Rattle.orders.specs.Permits.{Filled, fill}
use Rattle.orders.specs.Steps.{after, verdict, finished}

abbrev pub then_added : {E : Type 0} → Option Fault → List E → Added E → Added E
then_added (Some f) xs r = record { items = xs; fault = Some f }
then_added None xs r = record { items = xs ++ r.items; fault = r.fault }

-- what a list of further orders adds up to the first refusal, and that fault
abbrev pub addition : {O E : Type 0} → Adds O E → List O → Added E
addition a [] = record { items = []; fault = None }
addition a (o ∷ os) = then_added (a [] o).fault (a [] o).items (addition (later o a) os)

-- an order for each byte, and then others
abbrev pub each : {O : Type 0} → (ℕ → O) → List ℕ → List O → List O
each f [] os = os
each f (b ∷ bs) os = f b ∷ each f bs os

abbrev pub count_on : Option Fault → ℕ → ℕ
count_on None n = 1 + n
count_on (Some f) n = 0

module _ {k : Kind} {E : Type 0} where
  abbrev pub sent_on : Option Fault → Meaning k E → Meaning k E → Meaning k E
  sent_on None m rest = rest
  sent_on (Some f) m rest = m

  -- the meaning after orders that are handed on one by one, to the first refusal
  abbrev pub sent : Meaning k E → List k.Order → Meaning k E
  sent m [] = m
  sent m (o ∷ os) = sent_on (verdict m o) (after m o) (sent (after m o) os)

  -- that refusal
  abbrev pub sent_fault : Meaning k E → List k.Order → Option Fault
  sent_fault m [] = None
  sent_fault m (o ∷ os) = or_else (verdict m o) (sent_fault (after m o) os)

  -- how many are accepted before it
  abbrev pub count : Meaning k E → List k.Order → ℕ
  count m [] = 0
  count m (o ∷ os) = count_on (verdict m o) (count (after m o) os)

  -- the foot and the fault after orders that are handed on one by one
  abbrev pub ran : Meaning k E → List k.Order → Filled E
  ran m os = record { list = (sent m os).foot; fault = sent_fault m os }

  -- the foot and the fault by what the orders add as a whole; c says whether the last of them closes
  abbrev pub reach : Meaning k E → List k.Order → Bool → Filled E
  reach m os c = finished (ending m.fixed) c (addition m.adds os).fault (fill (bars m.fixed) m.foot (addition m.adds os).items)
