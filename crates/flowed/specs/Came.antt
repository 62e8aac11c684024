-- Whether the body came back.
use Rattle.std.specs.Prelude.{Bool, true, false, Ok, Err}
use Rattle.fault.specs.declared.fault.Fault.{Fault}
use Rattle.carry.specs.Trip.{Trip}

abbrev pub came : Trip Fault Fault Fault → Bool
came (Ok n) = true
came (Err e) = false
