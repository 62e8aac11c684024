-- What an end means: it adds each byte as it is and nothing at close, and refuses only by its permit.
use Rattle.std.specs.Prelude.{ℕ, Bool, false, cond, List, [], ◌∷◌, length, take, Some, None, vec_items, vec_len, Vec, ◌==◌, nat_lt, slice_index}
use Rattle.std.specs.declared.alloc.Global.{Global}
use Rattle.fault.specs.declared.fault.Fault.{Fault}
use Rattle.fault.specs.declared.cause.Cause.TheVariants.{AfterClose, AfterShut, Full, Differs, Incomplete}
use Rattle.fault.specs.declared.layer.Layer.TheVariants.{End}
use Rattle.fault.specs.Faults.{own}
use Rattle.orders.specs.declared.phase.Phase.{Phase}
use Rattle.orders.specs.declared.phase.Phase.TheVariants.{Running, Closed, Shut}
use Rattle.orders.specs.Meaning.{Added, Adds, Permit, refuses, silent}
use Rattle.orders.specs.Steps.{shown, grown}
use Rattle.orders.specs.Phases.{stands}
use Rattle.undo.specs.Undoing.{plain}
use Rattle.sink.specs.Sink.{Order, put, close, Sink}

abbrev pub as_it_is : Order → Added ℕ
as_it_is (put b) = record { items = b ∷ []; fault = None }
as_it_is close = record { items = []; fault = None }

-- what orders add, after n bytes
abbrev pub running_adds : ℕ → Adds Order ℕ
running_adds n [] o = as_it_is o
running_adds n (put b ∷ p) o = running_adds (grown n) p o
running_adds n (close ∷ p) o = refuses (own AfterClose End n) p o

abbrev pub end_adds : Phase Fault → ℕ → Adds Order ℕ
end_adds Running n = running_adds n
end_adds Closed n = refuses (own AfterClose End n)
end_adds (Shut f) n = refuses (own AfterShut End n)

-- open, with nothing taken
abbrev pub end_fresh : Phase Fault → List ℕ → Bool
end_fresh Running xs = length xs == 0
end_fresh Closed xs = false
end_fresh (Shut f) xs = false

abbrev pub end_means : Permit ℕ → List ℕ → Phase Fault → Sink
end_means permit foot phase = record {
  fixed = record { end = permit; above = 0; layer = End; also = plain };
  foot = foot;
  adds = end_adds phase (shown foot);
  says = silent;
  fresh = end_fresh phase foot;
  place = shown foot;
  standing = stands phase;
}

-- a memory of n bytes permits every list that fits, and may always be closed
abbrev pub fits : ℕ → Permit ℕ
fits n = record { bars = λ p b. cond (nat_lt (length p) n) None (Some (own Full End (shown p))); ending = λ p. None }

-- a reference permits its beginnings, and may be closed only on the whole
abbrev pub matches : List ℕ → Permit ℕ
matches ref = record {
  bars = λ p b. cond (nat_lt (length p) (length ref)) (cond (slice_index ref (length p) == b) None (Some (own Differs End (shown p)))) (Some (own Differs End (shown p)));
  ending = λ p. cond (nat_lt (length p) (length ref)) (Some (own Incomplete End (shown p))) None;
}

-- the first n bytes of the memory
abbrev pub held : Vec ℕ Global → ℕ → List ℕ
held v n = take n (vec_items v)

abbrev pub memory_means : Vec ℕ Global → ℕ → Phase Fault → Sink
memory_means v n phase = end_means (fits (vec_len v)) (held v n) phase

abbrev pub compare_means : List ℕ → ℕ → Phase Fault → Sink
compare_means ref n phase = end_means (matches ref) (take n ref) phase
