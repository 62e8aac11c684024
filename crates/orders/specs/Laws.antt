-- What every taker keeps.
use Rattle.std.specs.Prelude.{◌≡◌, true, false, List, [], ◌∷◌, Some, None}
use Rattle.fault.specs.declared.fault.Fault.{Fault}
use Rattle.fault.specs.declared.cause.Cause.TheVariants.{AfterClose}
use Rattle.fault.specs.Faults.{own, leaves}
use Rattle.orders.specs.Meaning.{Kind, Meaning, Permit, refuses}
use Rattle.orders.specs.Permits.{Permitted}
use Rattle.orders.specs.Steps.{place_on}

-- the permit names no cause from 1 to 6
pub record Hard {E : Type 0} (p : Permit E) : Type 0 where
  pub bars : (l : List E) (x : E) (f : Fault) → p.bars l x ≡ Some f → leaves f.cause ≡ false
  pub ending : (l : List E) (f : Fault) → p.ending l ≡ Some f → leaves f.cause ≡ false

pub record Sound {k : Kind} {E : Type 0} (m : Meaning k E) : Type 0 where
  -- fresh, its foot is empty
  pub empty : m.fresh ≡ true → m.foot ≡ []
  -- the foot is permitted
  pub within : Permitted m.fixed.end.bars m.foot
  pub hard : Hard m.fixed.end
  -- behind an order that closes, every order is refused with cause 5
  pub over : (o : k.Order) → k.closes o ≡ true → (m.adds [] o).fault ≡ None → (p : List k.Order) (q : k.Order) → m.adds (o ∷ p) q ≡ refuses (own AfterClose m.fixed.layer (place_on (k.counts o) m.place)) p q
