-- The undoing of the dot stage: a 2E at a line beginning is dropped, and 2E CRLF there is the end mark.
use Rattle.std.specs.Prelude.{ℕ, cond, List, [], ◌∷◌, Some, None, Ok, Err, Option, Result, ◌==◌}
use Rattle.fault.specs.declared.fault.Fault.{Fault}
use Rattle.fault.specs.declared.cause.Cause.{Cause}
use Rattle.fault.specs.declared.cause.Cause.TheVariants.{Unpaired, Incomplete, AfterEndMark}
use Rattle.fault.specs.declared.layer.Layer.TheVariants.{DotUndoing}
use Rattle.fault.specs.Faults.{own}
use Rattle.orders.specs.Steps.{grown}
use Rattle.undo.specs.Undoing.{Undoing}
use Rattle.dot.specs.declared.undo_state.UndoState.{UndoState}
use Rattle.dot.specs.declared.undo_state.UndoState.TheVariants.{Start, Within, AfterCr, Mark, MarkCr, Ended}

-- what is given and the next state, or the cause of a refusal
abbrev pub Undot : Type 0
Undot = Result (Option ℕ × UndoState) Cause

-- a byte of a line: 0A may not come, since 0D does not stand before it
abbrev pub in_line : ℕ → Undot
in_line b = cond (b == 10) (Err Unpaired) (Ok (Some b, cond (b == 13) AfterCr Within))

abbrev pub undot : UndoState → ℕ → Undot
undot Start b = cond (b == 46) (Ok (None, Mark)) (in_line b)
undot Within b = in_line b
undot AfterCr b = cond (b == 10) (Ok (Some b, Start)) (Err Unpaired)
undot Mark b = cond (b == 13) (Ok (None, MarkCr)) (in_line b)
undot MarkCr b = cond (b == 10) (Ok (None, Ended)) (Err Unpaired)
undot Ended b = cond (b == 10) (Err Unpaired) (Err AfterEndMark)

abbrev pub undot_answer : ℕ → Undot → Result (Option ℕ) Fault
undot_answer n (Ok x) = Ok x.0
undot_answer n (Err c) = Err (own c DotUndoing n)

-- only behind the end mark may it stop
abbrev pub undot_stop : ℕ → UndoState → Option Fault
undot_stop n Start = Some (own Incomplete DotUndoing n)
undot_stop n Within = Some (own Incomplete DotUndoing n)
undot_stop n AfterCr = Some (own Incomplete DotUndoing n)
undot_stop n Mark = Some (own Incomplete DotUndoing n)
undot_stop n MarkCr = Some (own Incomplete DotUndoing n)
undot_stop n Ended = None

abbrev pub state_on : Undot → UndoState → UndoState
state_on (Ok x) s = x.1
state_on (Err c) s = s

abbrev pub undot_takes : ℕ → UndoState → List ℕ → ℕ → Result (Option ℕ) Fault
undot_takes n s [] b = undot_answer n (undot s b)
undot_takes n s (q ∷ p) b = undot_takes (grown n) (state_on (undot s q) s) p b

abbrev pub undot_stops : ℕ → UndoState → List ℕ → Option Fault
undot_stops n s [] = undot_stop n s
undot_stops n s (q ∷ p) = undot_stops (grown n) (state_on (undot s q) s) p

-- after n accepted bytes, in state s
abbrev pub undotting : ℕ → UndoState → Undoing
undotting n s = record { takes = undot_takes n s; stop = undot_stops n s }
