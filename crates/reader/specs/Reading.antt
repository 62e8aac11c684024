-- What a reader means, and what a wire byte, a chunk and a finish come to.
use Rattle.std.specs.Prelude.{ℕ, ◌+◌, List, [], ◌∷◌, Some, None, Ok, Err, Option, Result}
use Rattle.fault.specs.declared.fault.Fault.{Fault}
use Rattle.fault.specs.declared.cause.Cause.{Cause}
use Rattle.fault.specs.declared.cause.Cause.TheVariants.{AfterClose, AfterShut}
use Rattle.fault.specs.declared.layer.Layer.TheVariants.{Reader as reader_layer}
use Rattle.fault.specs.Faults.{own, raise}
use Rattle.fault.specs.Answers.{answer, raised}
use Rattle.orders.specs.declared.phase.Phase.{Phase}
use Rattle.orders.specs.declared.phase.Phase.TheVariants.{Running, Closed, Shut}
use Rattle.orders.specs.Steps.{after, verdict, value, grown}
use Rattle.undo.specs.Undoing.{Undoing, fed}
use Rattle.taker.specs.Paragraph.{Taker, finishes}
use Rattle.taker.specs.Events.{Event}
use Rattle.reading.specs.Machine.{State, start, Step, hands, refuses, step, finish}
use Rattle.reader.specs.Handing.{Handing, hand}

-- the undoing stage, where it stands in a line, the taker, the number of the open paragraph, how many undone bytes were accepted
-- (capped), and whether it goes on
pub record Reading (E : Type 0) : Type 0 where
  pub undo : Undoing
  pub line : State
  pub taker : Taker E
  pub number : ℕ
  pub place : ℕ
  pub phase : Phase Fault

-- before all bytes
abbrev pub new_reading : {E : Type 0} → Undoing → Taker E → Reading E
new_reading u t = record { undo = u; line = start; taker = t; number = 0; place = 0; phase = Running }

-- what a reader comes to, and the refusal
pub record Read (E : Type 0) : Type 0 where
  pub left : Reading E
  pub fault : Option Fault

abbrev pub counted_by : Option Fault → ℕ → ℕ
counted_by None n = 1 + n
counted_by (Some f) n = 0

abbrev pub phase_by : Option Fault → Phase Fault → Phase Fault
phase_by None p = p
phase_by (Some f) p = Shut f

abbrev pub last_events : Result (List Event) Cause → List Event
last_events (Ok es) = es
last_events (Err c) = []

module _ {E : Type 0} where
  abbrev pub refused : Reading E → Fault → Read E
  refused r f = record { left = r; fault = Some f }

  -- a refusal of its own
  abbrev pub own_refusal : Reading E → Cause → Read E
  own_refusal r c = refused r (own c reader_layer r.place)

  -- the taker and the number, once events were handed on
  abbrev pub with_taker : Reading E → Handing E → Reading E
  with_taker r h = record { undo = r.undo; line = r.line; taker = h.taker; number = h.number; place = r.place; phase = r.phase }

  abbrev pub with_phase : Reading E → Phase Fault → Reading E
  with_phase r p = record { undo = r.undo; line = r.line; taker = r.taker; number = r.number; place = r.place; phase = p }

  abbrev pub on_line : Reading E → State → Reading E
  on_line r s = record { undo = r.undo; line = s; taker = r.taker; number = r.number; place = grown r.place; phase = r.phase }

  -- where the taker refused, its fault goes up, one level higher
  abbrev pub handed_on : Option Fault → Reading E → State → Read E
  handed_on None r s = record { left = on_line r s; fault = None }
  handed_on (Some f) r s = refused r (raise f)

  abbrev pub told : Reading E → State → Handing E → Read E
  told r s h = handed_on h.fault (with_taker r h) s

  -- what an undone byte comes to, by the rules of reading
  abbrev pub stepped : Reading E → Step → Read E
  stepped r (hands es s) = told r s (hand r.taker r.number es)
  stepped r (refuses c) = own_refusal r c

  -- what a wire byte comes to while it goes on, by what the undoing stage makes of it
  abbrev pub undone_byte : Reading E → Result (Option ℕ) Fault → Read E
  undone_byte r (Ok (Some c)) = stepped r (step r.line c)
  undone_byte r (Ok None) = record { left = r; fault = None }
  undone_byte r (Err f) = refused r (raise f)

  abbrev pub with_undo : Reading E → Undoing → Reading E
  with_undo r u = record { undo = u; line = r.line; taker = r.taker; number = r.number; place = r.place; phase = r.phase }

  abbrev pub wire_byte : Reading E → ℕ → Read E
  wire_byte r b = undone_byte (with_undo r (fed r.undo b)) (r.undo.takes [] b)

  -- its first refusal shuts it, and otherwise it goes on as p says
  abbrev pub settled : Phase Fault → Read E → Read E
  settled p x = record { left = with_phase x.left (phase_by x.fault p); fault = x.fault }

  -- once it has finished or was shut, all is refused and left as it was
  abbrev pub unless_over : Phase Fault → Reading E → Read E → Read E
  unless_over Running r next = next
  unless_over Closed r next = record { left = r; fault = Some (own AfterClose reader_layer r.place) }
  unless_over (Shut f) r next = record { left = r; fault = Some (own AfterShut reader_layer r.place) }

  -- a wire byte
  abbrev pub byte : Reading E → ℕ → Read E
  byte r b = unless_over r.phase r (settled Running (wire_byte r b))

  abbrev pub then_read : Option Fault → Reading E → Read E → Read E
  then_read None r rest = rest
  then_read (Some f) r rest = record { left = r; fault = Some f }

  -- a chunk, to the first refusal
  abbrev pub bytes : Reading E → List ℕ → Read E
  bytes r [] = record { left = r; fault = None }
  bytes r (b ∷ bs) = then_read (byte r b).fault (byte r b).left (bytes (byte r b).left bs)

  -- how many of its bytes are accepted
  abbrev pub accepted : Reading E → List ℕ → ℕ
  accepted r [] = 0
  accepted r (b ∷ bs) = counted_by (byte r b).fault (accepted (byte r b).left bs)

  -- the finish of the taker
  abbrev pub taker_finish : Reading E → Read E
  taker_finish r = record { left = with_taker r (record { taker = after r.taker finishes; number = r.number; fault = None }); fault = raised (verdict r.taker finishes) }

  abbrev pub last_orders : Option Fault → Reading E → Read E
  last_orders None r = taker_finish r
  last_orders (Some f) r = refused r (raise f)

  -- the undoing pile has to stop first
  abbrev pub if_stopped : Option Fault → Reading E → Handing E → Read E
  if_stopped None r h = last_orders h.fault (with_taker r h)
  if_stopped (Some f) r h = refused r (raise f)

  -- inside a line it is refused
  abbrev pub line_finish : Result (List Event) Cause → Reading E → Read E
  line_finish (Ok es) r = if_stopped (r.undo.stop []) r (hand r.taker r.number es)
  line_finish (Err c) r = own_refusal r c

  abbrev pub finish_read : Reading E → Read E
  finish_read r = unless_over r.phase r (settled Closed (line_finish (finish r.line) r))

  -- an accepted finish answers what that of the taker does
  abbrev pub finish_tells : Reading E → ℕ
  finish_tells r = value (hand r.taker r.number (last_events (finish r.line))).taker finishes

  abbrev pub finish_answered : Reading E → Result ℕ Fault
  finish_answered r = answer (finish_tells r) (finish_read r).fault
