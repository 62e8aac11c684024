-- A taker with nothing below it, by the steps of its state: what it means over the list that it took.
use Rattle.std.specs.Prelude.{◌≡◌, ℕ, Bool, true, false, List, [], ◌∷◌, Some, None}
use Rattle.fault.specs.declared.fault.Fault.{Fault}
use Rattle.fault.specs.declared.cause.Cause.{Cause}
use Rattle.fault.specs.declared.cause.Cause.TheVariants.{AfterClose, AfterShut}
use Rattle.fault.specs.declared.layer.Layer.{Layer}
use Rattle.fault.specs.Faults.{own}
use Rattle.orders.specs.declared.phase.Phase.{Phase}
use Rattle.orders.specs.declared.phase.Phase.TheVariants.{Running, Closed, Shut}
use Rattle.orders.specs.Meaning.{Kind, Added, Adds, Permit, Meaning, refuses, silent}
use Rattle.orders.specs.Steps.{place_on}
use Rattle.orders.specs.Phases.{stands}

-- what an order does: items join the foot, if the permit allows, or it is refused with a cause
pub data Step (St E : Type 0) : Type 0 where
  takes : List E → St → Step St E
  stops : Cause → Step St E

pub record Bottom (k : Kind) (E : Type 0) : Type 1 where
  pub St : Type 0
  pub step : St → k.Order → Step St E
  -- what an accepted order answers
  pub tells : St → k.Order → ℕ
  pub ready : St → Bool
  pub layer : Layer
  pub also : k.Also

abbrev pub state_on : {St E : Type 0} → Step St E → St → St
state_on (takes es t) s = t
state_on (stops c) s = s

module _ {k : Kind} {E : Type 0} (a : Bottom k E) where
  -- what a step adds, at place n
  abbrev pub stepped : Step a.St E → ℕ → Added E
  stepped (takes es t) n = record { items = es; fault = None }
  stepped (stops c) n = record { items = []; fault = Some (own c a.layer n) }

  abbrev pub run_on : Step a.St E → Bool → ℕ → ℕ → (ℕ → a.St → k.Order → Added E) → k.Order → Added E
  run_on (takes es t) false n n' next o = next n' t o
  run_on (takes es t) true n n' next o = refuses (own AfterClose a.layer n') [] o
  run_on (stops c) b n n' next o = refuses (own AfterShut a.layer n) [] o

  -- what orders add, from place n and state s
  abbrev pub run : ℕ → a.St → Adds k.Order E
  run n s [] o = stepped (a.step s o) n
  run n s (q ∷ p) o = run_on (a.step s q) (k.closes q) n (place_on (k.counts q) n) (λ n' s'. run n' s' p) o

  abbrev pub state_after : a.St → List k.Order → a.St
  state_after s [] = s
  state_after s (q ∷ p) = state_after (state_on (a.step s q) s) p

  abbrev pub bottom_adds : Phase Fault → ℕ → a.St → Adds k.Order E
  bottom_adds Running n s = run n s
  bottom_adds Closed n s = refuses (own AfterClose a.layer n)
  bottom_adds (Shut f) n s = refuses (own AfterShut a.layer n)

  abbrev pub bottom_says : Phase Fault → a.St → List k.Order → k.Order → ℕ
  bottom_says Running s = λ p. a.tells (state_after s p)
  bottom_says Closed s = silent
  bottom_says (Shut f) s = silent

  abbrev pub bottom_fresh : Phase Fault → a.St → Bool
  bottom_fresh Running s = a.ready s
  bottom_fresh Closed s = false
  bottom_fresh (Shut f) s = false

  -- with a permit and a foot, in state s, after n accepted bytes
  abbrev pub bottom_means : Permit E → List E → a.St → Phase Fault → ℕ → Meaning k E
  bottom_means permit foot s ph n = record {
    fixed = record { end = permit; above = 0; layer = a.layer; also = a.also };
    foot = foot;
    adds = bottom_adds ph n s;
    says = bottom_says ph s;
    fresh = bottom_fresh ph s;
    place = n;
    standing = stands ph;
  }

  -- an accepted order leaves no state that counts as fresh
  abbrev pub Stirs : Type 0
  Stirs = (s : a.St) (o : k.Order) (es : List E) (t : a.St) → k.closes o ≡ false → a.step s o ≡ takes es t → a.ready t ≡ false
