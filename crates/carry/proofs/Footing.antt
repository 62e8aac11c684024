-- What stands behind the foot, where a byte went into the sink or none.
use Rattle.std.proofs.Common.{◌≡◌, ℕ, List, Some, None, Ok, Err, Option, Result, sym, ◌∙◌, subst}
use Rattle.fault.specs.declared.fault.Fault.{Fault}
use Rattle.orders.specs.Behind.{Behind}
use Rattle.orders.proofs.Growing.{behind_then}
use Rattle.sink.specs.Sink.{Sink, put}
use Rattle.carry.specs.Back.{sink_at}

stayed : (m n : Sink) (x y z : List ℕ) → n ≡ m → Behind m.foot x y → Behind n.foot y z → Behind n.foot x z
stayed m n x y z e p q = q ∙ subst (λ (k : Sink). Behind k.foot x y) (sym e) p

pub behind_on : (a : Result (Option ℕ) Fault) (m n : Sink) (x y z : List ℕ) → n ≡ sink_at a m → Behind m.foot x y → Behind n.foot y z → Behind n.foot x z
behind_on (Ok (Some c)) m n x y z e p q = behind_then m n (put c) x y z e p q
behind_on (Ok None) m n x y z e p q = stayed m n x y z e p q
behind_on (Err f) m n x y z e p q = stayed m n x y z e p q
