-- What the piles of an exchange mean.
use Rattle.fault.specs.Kinds.{own_fault, layer_fault}
use Rattle.fault.specs.Answers.{via}
use Rattle.orders.specs.Phases.{phased}
use Rattle.undo.specs.declared.pair.Pair.{Pair}
use Rattle.undo.specs.declared.plain.Plain.{Plain}
use Rattle.undo.specs.Undoing.{Undoing, plain, piped, pair_means, held_by}
use Rattle.sink.specs.Sink.{Sink}
use Rattle.layer.specs.Layer.{layer_means}
use Rattle.ends.specs.Ends.{memory_means}
use Rattle.ends.specs.declared.buffer.Buffer.{Buffer}
use Rattle.ends.specs.declared.end.End.{End}
use Rattle.dot.specs.declared.dot.Dot.{Dot}
use Rattle.dot.specs.declared.undot.DotUndo.{DotUndo}
use Rattle.dot.specs.declared.undo_state.UndoState.TheVariants.{Start as before_all}
use Rattle.dot.specs.Dot.{dot}
use Rattle.dot.specs.Undot.{undotting}

-- a memory end, and a dot stage over one
abbrev pub end_means : End Buffer → Sink
end_means e = memory_means e.holder.memory e.holder.len (phased own_fault e.phase)

abbrev pub dot_means : Dot (End Buffer) → Sink
dot_means s = layer_means dot (end_means s.below) s.line (phased layer_fault s.phase) s.place

-- the undoing of such a stage, as it is, and before all bytes
abbrev pub undo_means : Pair Plain DotUndo → Undoing
undo_means p = pair_means (via own_fault p.standing) plain (held_by (via own_fault p.second.standing) (undotting p.second.place p.second.state))

abbrev pub undotted : Undoing
undotted = piped plain (undotting 0 before_all)
