-- What an order came to.
use Rattle.std.proofs.Common.{◌≡◌, Option}
use Rattle.fault.specs.declared.fault.Fault.{Fault}
use Rattle.orders.specs.Meaning.{Kind, Meaning}
use Rattle.orders.specs.Steps.{after, verdict}

-- the verdict, and what the taker means then
pub record Did {k : Kind} {E : Type 0} (m n : Meaning k E) (o : k.Order) (v : Option Fault) : Type 0 where
  pub tells : verdict m o ≡ v
  pub leads : n ≡ after m o
