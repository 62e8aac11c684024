-- A reading run: the steps that a reader was given, with their answers, and the orders that it handed on to its taker.
use Rattle.std.specs.Prelude.{◌≡◌, ℕ, List, [], ◌∷◌, ◌++◌, length, Some, None, Ok, Err, Option, Result}
use Rattle.fault.specs.declared.fault.Fault.{Fault}
use Rattle.fault.specs.declared.cause.Cause.{Cause}
use Rattle.orders.specs.declared.phase.Phase.{Phase}
use Rattle.orders.specs.declared.phase.Phase.TheVariants.{Running, Closed, Shut}
use Rattle.taker.specs.Paragraph.{Order}
use Rattle.taker.specs.Paragraph.{finishes as finish_order}
use Rattle.taker.specs.Events.{Event}
use Rattle.reading.specs.Machine.{Step, hands, refuses, step, finish}
use Rattle.reader.specs.Handing.{hand, orders_for, more_unless}
use Rattle.reader.specs.Reading.{Reading, byte, bytes, accepted, finish_read, finish_answered}

-- a step with its answer: of a feed, how many bytes were accepted, and the fault
pub data StepRead : Type 0 where
  fed : List ℕ → ℕ → Option Fault → StepRead
  finished : Result ℕ Fault → StepRead

abbrev pub while_running : Phase Fault → List Order → List Order
while_running Running os = os
while_running Closed os = []
while_running (Shut f) os = []

module _ {E : Type 0} where
  abbrev pub step_orders : Reading E → Step → List Order
  step_orders r (hands es s) = orders_for r.taker r.number es
  step_orders r (refuses c) = []

  abbrev pub undone_orders : Reading E → Result (Option ℕ) Fault → List Order
  undone_orders r (Ok (Some c)) = step_orders r (step r.line c)
  undone_orders r (Ok None) = []
  undone_orders r (Err f) = []

  -- what a wire byte hands on
  abbrev pub byte_orders : Reading E → ℕ → List Order
  byte_orders r b = while_running r.phase (undone_orders r (r.undo.takes [] b))

  -- what a chunk hands on, to the first refusal
  abbrev pub chunk_orders : Reading E → List ℕ → List Order
  chunk_orders r [] = []
  chunk_orders r (b ∷ bs) = byte_orders r b ++ more_unless (byte r b).fault (chunk_orders (byte r b).left bs)

  abbrev pub stopped_orders : Reading E → Option Fault → List Event → List Order
  stopped_orders r None es = orders_for r.taker r.number es ++ more_unless (hand r.taker r.number es).fault (finish_order ∷ [])
  stopped_orders r (Some f) es = []

  abbrev pub line_orders : Reading E → Result (List Event) Cause → List Order
  line_orders r (Ok es) = stopped_orders r (r.undo.stop []) es
  line_orders r (Err c) = []

  -- what a finish hands on
  abbrev pub finish_orders : Reading E → List Order
  finish_orders r = while_running r.phase (line_orders r (finish r.line))

-- from a start, by steps (the newest first), to a reader that handed on these orders (the oldest first)
pub data Reads {E : Type 0} (start : Reading E) : List StepRead → List Order → Reading E → Type 0 where
  begun : {r : Reading E} → r ≡ start → Reads start [] [] r
  feeds : {h : List StepRead} {os : List Order} {r s : Reading E} → Reads start h os r → (bs : List ℕ) (c : ℕ) (f : Option Fault) → c ≡ accepted r bs → f ≡ (bytes r bs).fault → s ≡ (bytes r bs).left → Reads start (fed bs c f ∷ h) (os ++ chunk_orders r bs) s
  finishes : {h : List StepRead} {os : List Order} {r s : Reading E} → Reads start h os r → (a : Result ℕ Fault) → a ≡ finish_answered r → s ≡ (finish_read r).left → Reads start (finished a ∷ h) (os ++ finish_orders r) s

-- feeds and no finish
pub data OnlyFeeds : List StepRead → Type 0 where
  none : OnlyFeeds []
  feed : {h : List StepRead} {bs : List ℕ} {c : ℕ} {f : Option Fault} → OnlyFeeds h → OnlyFeeds (fed bs c f ∷ h)

-- the bytes that were fed, the oldest first
abbrev pub fed_bytes : List StepRead → List ℕ
fed_bytes [] = []
fed_bytes (fed bs c f ∷ h) = fed_bytes h ++ bs
fed_bytes (finished a ∷ h) = fed_bytes h

-- each feed was accepted whole
pub data AllTaken : List StepRead → Type 0 where
  none : AllTaken []
  feed : {h : List StepRead} {bs : List ℕ} {c : ℕ} {f : Option Fault} → AllTaken h → c ≡ length bs → f ≡ None → AllTaken (fed bs c f ∷ h)
