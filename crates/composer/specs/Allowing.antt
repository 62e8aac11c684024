-- Whether an order may be taken, by the cause that refuses it.
use Rattle.std.specs.Prelude.{Some, None, Ok, Err, Option, Result}
use Rattle.std.specs.Result.{result_and}
use Rattle.fault.specs.declared.cause.Cause.{Cause}
use Rattle.orders.specs.declared.phase.Phase.{Phase}
use Rattle.orders.specs.Phases.{running}

abbrev pub allowed : Option Cause → Result (Unit {0}) Cause
allowed None = Ok tt
allowed (Some c) = Err c

-- every order is refused once the composer was closed or shut
abbrev pub allowed_in : {F : Type 0} → Phase F → Option Cause → Result (Unit {0}) Cause
allowed_in ph r = result_and (running ph) (allowed r)
