-- The dot stage: a 2E at a line beginning goes out twice, all else once.
use Rattle.std.specs.Prelude.{ℕ, Bool, true, false, cond, List, [], ◌∷◌, Some, None, Option, ◌==◌}
use Rattle.fault.specs.declared.cause.Cause.TheVariants.{Unpaired, Incomplete}
use Rattle.fault.specs.declared.layer.Layer.TheVariants.{Dot}
use Rattle.undo.specs.Undoing.{piped}
use Rattle.sink.specs.Sink.{Order, put, close, bytes}
use Rattle.layer.specs.Layer.{Move, sends, stops, Machine}
use Rattle.dot.specs.declared.line.LineState.{LineState}
use Rattle.dot.specs.declared.line.LineState.TheVariants.{Start, Within, AfterCr}
use Rattle.dot.specs.declared.undo_state.UndoState.TheVariants.{Start as before_all}
use Rattle.dot.specs.Stuffing.{end_mark}
use Rattle.dot.specs.Undot.{undotting}

abbrev pub within : ℕ → LineState
within b = cond (b == 13) AfterCr Within

-- where a byte leads; none for 0A not after 0D, and for a byte other than 0A after 0D
abbrev pub line_after : LineState → ℕ → Option LineState
line_after Start b = cond (b == 10) None (Some (within b))
line_after Within b = cond (b == 10) None (Some (within b))
line_after AfterCr b = cond (b == 10) (Some Start) None

-- a 2E at a line beginning
abbrev pub leads : LineState → ℕ → Bool
leads Start b = b == 46
leads Within b = false
leads AfterCr b = false

abbrev pub doubled : Bool → ℕ → List ℕ
doubled true b = b ∷ b ∷ []
doubled false b = b ∷ []

abbrev pub move_by : Option LineState → List ℕ → Move LineState
move_by (Some l) bs = sends bs l
move_by None bs = stops Unpaired

-- close is refused inside a line, and otherwise adds the end mark
abbrev pub close_by : LineState → Move LineState
close_by Start = sends end_mark Start
close_by Within = stops Incomplete
close_by AfterCr = stops Incomplete

abbrev pub dot_move : LineState → Order → Move LineState
dot_move l (put b) = move_by (line_after l b) (doubled (leads l b) b)
dot_move l close = close_by l

abbrev pub at_start : LineState → Bool
at_start Start = true
at_start Within = false
at_start AfterCr = false

-- its undoing stands behind that of what stands below
abbrev pub dot : Machine bytes
dot = record { St = LineState; move = dot_move; tells = λ s o. 0; ready = at_start; layer = Dot; over = λ u. piped u (undotting 0 before_all) }
