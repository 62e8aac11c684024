-- The events of a plan.
use Rattle.std.specs.Prelude.{ℕ, Bool, true, false, List, [], ◌∷◌, ◌++◌, take, Some, None, Option}
use Rattle.reading.specs.Events.{Event, opened, ended, texts}
use Rattle.reader.specs.declared.text.Text.{Text}
use Rattle.reader.specs.declared.plan.Plan.{Plan}

abbrev pub end_if : Bool → List Event
end_if true = ended ∷ []
end_if false = []

abbrev pub open_if : Option ℕ → List Event
open_if (Some d) = opened d ∷ []
open_if None = []

abbrev pub bytes_of : Text → List ℕ
bytes_of t = take t.len t.bytes

abbrev pub events_of : Plan → List Event
events_of p = end_if p.end_first ++ (open_if p.«open» ++ (texts (bytes_of p.text) ++ end_if p.end))
