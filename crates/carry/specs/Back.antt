-- Wire bytes through an undoing stage into a sink.
use Rattle.std.specs.Prelude.{ℕ, ◌+◌, List, [], ◌∷◌, Some, None, Ok, Err, Option, Result}
use Rattle.fault.specs.declared.fault.Fault.{Fault}
use Rattle.orders.specs.Steps.{after, verdict, answered}
use Rattle.undo.specs.Undoing.{Undoing, fed}
use Rattle.sink.specs.Sink.{Sink, put, close}
use Rattle.carry.specs.declared.stop.Stop.{Stop}
use Rattle.carry.specs.declared.stop.Stop.TheVariants.{Undoing as by_undoing, Sink as by_sink}

abbrev pub Stopped : Type 0
Stopped = Option (Stop Fault Fault)

-- what stopped, by the faults that are meant
abbrev pub meant : {U F : Type 0} → (U → Fault) → (F → Fault) → Stop U F → Stop Fault Fault
meant u f (by_undoing x) = by_undoing (u x)
meant u f (by_sink x) = by_sink (f x)

abbrev pub told_back : {T U F : Type 0} → (U → Fault) → (F → Fault) → Result T (Stop U F) → Result T (Stop Fault Fault)
told_back u f (Ok x) = Ok x
told_back u f (Err x) = Err (meant u f x)

-- x, unless something stopped
abbrev pub unless : {T : Type 0} → T → Stopped → Result T (Stop Fault Fault)
unless x None = Ok x
unless x (Some s) = Err s

abbrev pub at_sink : Option Fault → Stopped
at_sink None = None
at_sink (Some f) = Some (by_sink f)

-- a byte: the stop, and what the sink comes to
abbrev pub stop_at : Result (Option ℕ) Fault → Sink → Stopped
stop_at (Ok (Some c)) m = at_sink (verdict m (put c))
stop_at (Ok None) m = None
stop_at (Err f) m = Some (by_undoing f)

abbrev pub sink_at : Result (Option ℕ) Fault → Sink → Sink
sink_at (Ok (Some c)) m = after m (put c)
sink_at (Ok None) m = m
sink_at (Err f) m = m

-- how many bytes went through, what stopped them, and what stage and sink come to
pub record Passed : Type 0 where
  pub count : ℕ
  pub stop : Stopped
  pub undoing : Undoing
  pub sink : Sink

abbrev pub passed_on : Stopped → Undoing → Sink → Passed → Passed
passed_on (Some x) u m rest = record { count = 0; stop = Some x; undoing = u; sink = m }
passed_on None u m rest = record { count = 1 + rest.count; stop = rest.stop; undoing = rest.undoing; sink = rest.sink }

abbrev pub passed : Undoing → Sink → List ℕ → Passed
passed u m [] = record { count = 0; stop = None; undoing = u; sink = m }
passed u m (b ∷ bs) = passed_on (stop_at (u.takes [] b) m) (fed u b) (sink_at (u.takes [] b) m) (passed (fed u b) (sink_at (u.takes [] b) m) bs)

-- behind the last byte the undoing is asked whether it may stop, and then the sink is closed
abbrev pub closed_by : Result ℕ Fault → Result ℕ (Stop Fault Fault)
closed_by (Ok n) = Ok n
closed_by (Err f) = Err (by_sink f)

abbrev pub answer_at : Stopped → Option Fault → Sink → Result ℕ (Stop Fault Fault)
answer_at (Some x) s m = Err x
answer_at None (Some f) m = Err (by_undoing f)
answer_at None None m = closed_by (answered m close)

abbrev pub sink_after : Stopped → Option Fault → Sink → Sink
sink_after (Some x) s m = m
sink_after None (Some f) m = m
sink_after None None m = after m close

-- what a whole wire text comes to
abbrev pub returned : Passed → Result ℕ (Stop Fault Fault)
returned p = answer_at p.stop (p.undoing.stop []) p.sink

abbrev pub sink_left : Passed → Sink
sink_left p = sink_after p.stop (p.undoing.stop []) p.sink
