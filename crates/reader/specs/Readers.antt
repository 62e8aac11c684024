-- What a reader of the code means.
use Rattle.fault.specs.Kinds.{layer_fault}
use Rattle.orders.specs.Phases.{phased}
use Rattle.undo.specs.Undoing.{Undoing}
use Rattle.taker.specs.Paragraph.{Taker}
use Rattle.reader.specs.declared.reader.Reader.{Reader}
use Rattle.reader.specs.States.{state_of}
use Rattle.reader.specs.Reading.{Reading}

-- over what the undoing stage and the taker mean
abbrev pub reading_of : {U T E : Type 0} → (U → Undoing) → (T → Taker E) → Reader U T → Reading E
reading_of undoes takes r = record {
  undo = undoes r.undo;
  line = state_of r.line;
  taker = takes r.delivery.taker;
  number = r.delivery.number;
  place = r.place;
  phase = phased layer_fault r.phase;
}
