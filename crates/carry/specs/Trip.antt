-- A body through a new dot stage into memory.
use Rattle.std.specs.Prelude.{ℕ, Some, None, Ok, Err, Option, Result, Vec}
use Rattle.std.specs.declared.alloc.Global.{Global}
use Rattle.fault.specs.declared.fault.Fault.{Fault}
use Rattle.orders.specs.declared.phase.Phase.TheVariants.{Running}
use Rattle.sink.specs.Sink.{Sink}
use Rattle.layer.specs.Layer.{layer_means}
use Rattle.ends.specs.Ends.{memory_means}
use Rattle.dot.specs.declared.line.LineState.TheVariants.{Start}
use Rattle.dot.specs.Dot.{dot}
use Rattle.carry.specs.declared.stop.Stop.{Stop}
use Rattle.carry.specs.declared.trip.TripError.{TripError}
use Rattle.carry.specs.declared.trip.TripError.TheVariants.{Refused, Stopped}
use Rattle.carry.specs.Back.{meant}

-- a new stage over a new memory end
abbrev pub new_stage : Vec ℕ Global → Sink
new_stage v = layer_means dot (memory_means v 0 Running) Start Running 0

abbrev pub error_meant : {S U F : Type 0} → (S → Fault) → (U → Fault) → (F → Fault) → TripError S U F → TripError Fault Fault Fault
error_meant s u f (Refused x) = Refused (s x)
error_meant s u f (Stopped x) = Stopped (meant u f x)

-- how many bytes came back, or why they did not
abbrev pub Trip : Type 0 → Type 0 → Type 0 → Type 0
Trip S U F = Result ℕ (TripError S U F)

-- a trip, by the faults that are meant
abbrev pub trip_meant : {S U F : Type 0} → (S → Fault) → (U → Fault) → (F → Fault) → Trip S U F → Trip Fault Fault Fault
trip_meant s u f (Ok n) = Ok n
trip_meant s u f (Err e) = Err (error_meant s u f e)

abbrev pub way_back : Result ℕ (Stop Fault Fault) → Trip Fault Fault Fault
way_back (Ok n) = Ok n
way_back (Err x) = Err (Stopped x)

-- what was refused nowhere came back
abbrev pub trip_of : Option Fault → ℕ → Trip Fault Fault Fault
trip_of (Some f) n = Err (Refused f)
trip_of None n = Ok n
