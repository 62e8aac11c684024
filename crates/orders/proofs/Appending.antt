-- Orders handed on after others.
use Rattle.std.proofs.Common.{◌≡◌, List, [], ◌∷◌, ◌++◌, Some, None, Option, refl}
use Rattle.fault.specs.declared.fault.Fault.{Fault}
use Rattle.fault.specs.Answers.{or_else}
use Rattle.orders.specs.Meaning.{Kind, Meaning}
use Rattle.orders.specs.Steps.{after, verdict}
use Rattle.orders.specs.Lists.{sent, sent_on, sent_fault}

pub or_else_assoc : (x y z : Option Fault) → or_else x (or_else y z) ≡ or_else (or_else x y) z
or_else_assoc (Some f) y z = refl
or_else_assoc None y z = refl

module _ {k : Kind} {E : Type 0} where
  pub sent_fault_append : (m : Meaning k E) (p q : List k.Order) → sent_fault m (p ++ q) ≡ or_else (sent_fault m p) (sent_fault (sent m p) q)
  sent_fault_append m [] q = refl
  sent_fault_append m (o ∷ p) q = go (verdict m o) (sent_fault_append (after m o) p q)
    where
      m' : Meaning k E
      m' = after m o

      go : (v : Option Fault) → sent_fault m' (p ++ q) ≡ or_else (sent_fault m' p) (sent_fault (sent m' p) q) → or_else v (sent_fault m' (p ++ q)) ≡ or_else (or_else v (sent_fault m' p)) (sent_fault (sent_on v m' (sent m' p)) q)
      go (Some f) ih = refl
      go None ih = ih

  -- where nothing was refused, the rest goes on
  pub sent_append : (m : Meaning k E) (p q : List k.Order) → sent m (p ++ q) ≡ sent_on (sent_fault m p) (sent m p) (sent (sent m p) q)
  sent_append m [] q = refl
  sent_append m (o ∷ p) q = go (verdict m o) (sent_append (after m o) p q)
    where
      m' : Meaning k E
      m' = after m o

      go : (v : Option Fault) → sent m' (p ++ q) ≡ sent_on (sent_fault m' p) (sent m' p) (sent (sent m' p) q) → sent_on v m' (sent m' (p ++ q)) ≡ sent_on (or_else v (sent_fault m' p)) (sent_on v m' (sent m' p)) (sent (sent_on v m' (sent m' p)) q)
      go (Some f) ih = refl
      go None ih = ih
