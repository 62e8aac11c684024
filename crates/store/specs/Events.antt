-- What a store took: opens, text bytes and ends.
use Rattle.std.specs.Prelude.{ℕ, ◌+◌, min, Bool, true, false, List, [], ◌∷◌, ◌++◌, take, drop, Some, None, Option, ◌==◌, nat_lt}
use Rattle.std.specs.List.{flat_map}
use Rattle.fault.specs.declared.fault.Fault.{Fault}
use Rattle.fault.specs.declared.cause.Cause.TheVariants.{Full}
use Rattle.fault.specs.declared.layer.Layer.TheVariants.{Store}
use Rattle.fault.specs.Faults.{own, most}
use Rattle.orders.specs.Meaning.{Permit}
use Rattle.orders.specs.Lists.{each}
pub use Rattle.taker.specs.Events.{Event, opened, text, ended}
use Rattle.store.specs.declared.record.Record.{Record}

abbrev pub opens_in : List Event → ℕ
opens_in [] = 0
opens_in (opened d ∷ es) = 1 + opens_in es
opens_in (text b ∷ es) = opens_in es
opens_in (ended ∷ es) = opens_in es

abbrev pub texts_in : List Event → ℕ
texts_in [] = 0
texts_in (opened d ∷ es) = texts_in es
texts_in (text b ∷ es) = 1 + texts_in es
texts_in (ended ∷ es) = texts_in es

-- records for r paragraphs and memory for n text bytes permit what both can hold, and may always be closed
abbrev pub if_room : Bool → List Event → Option Fault
if_room true p = None
if_room false p = Some (own Full Store (min (texts_in p) most))

abbrev pub holds_event : ℕ → ℕ → List Event → Event → Option Fault
holds_event r n p (opened d) = if_room (nat_lt (opens_in p) r) p
holds_event r n p (text b) = if_room (nat_lt (texts_in p) n) p
holds_event r n p ended = None

abbrev pub holds : ℕ → ℕ → Permit Event
holds r n = record { bars = holds_event r n; ending = λ p. None }

-- a paragraph by its record: its open, and its text
abbrev pub text_of : List ℕ → Record → List ℕ
text_of bytes r = take r.length (drop r.start bytes)

abbrev pub begun : List ℕ → Record → List Event
begun bytes r = opened r.depth ∷ each text (text_of bytes r) []

-- paragraphs that are ended, by their records
abbrev pub done : List ℕ → List Record → List Event
done bytes rs = flat_map (λ r. begun bytes r ++ ended ∷ []) rs

-- the paragraph that is open, by the first record behind those
abbrev pub being : Bool → List ℕ → List Record → List Event
being true bytes (r ∷ rs) = begun bytes r
being true bytes [] = []
being false bytes rs = []

-- what n records of ended paragraphs and perhaps an open one tell
abbrev pub told_by : List Record → List ℕ → ℕ → Bool → List Event
told_by records bytes n inside = done bytes (take n records) ++ being inside bytes (drop n records)

-- the records lie behind one another from a on: where the last of them ends
abbrev pub go_on : Bool → Option ℕ → Option ℕ
go_on true v = v
go_on false v = None

abbrev pub tiled : ℕ → List Record → Option ℕ
tiled a [] = Some a
tiled a (r ∷ rs) = go_on (r.start == a) (tiled (a + r.length) rs)

-- records in use
abbrev pub in_use : ℕ → Bool → ℕ
in_use n true = n + 1
in_use n false = n

-- the records lie behind one another, and the last of them ends at u
abbrev pub ends_at : Option ℕ → ℕ → Bool
ends_at None u = false
ends_at (Some v) u = v == u

abbrev pub tiles_to : List Record → ℕ → Bool
tiles_to rs u = ends_at (tiled 0 rs) u
