-- What a phase of the code means, by the fault that shut.
use Rattle.std.specs.Prelude.{◌≡◌, Bool, true, false, cond, Some, None, Option, Ok, Err, Result, ⊤}
use Rattle.fault.specs.declared.fault.Fault.{Fault}
use Rattle.fault.specs.declared.cause.Cause.{Cause}
use Rattle.fault.specs.declared.cause.Cause.TheVariants.{AfterClose, AfterShut}
use Rattle.std.specs.Option.{ForSome}
use Rattle.fault.specs.declared.layer.Layer.{Layer}
use Rattle.fault.specs.Numbers.{layer_number}
use Rattle.fault.specs.declared.own_fault.OwnFault.{OwnFault}
use Rattle.fault.specs.Faults.{leaves}
use Rattle.orders.specs.declared.phase.Phase.{Phase}
use Rattle.orders.specs.declared.phase.Phase.TheVariants.{Running, Closed, Shut}

abbrev pub phased : {F : Type 0} → (F → Fault) → Phase F → Phase Fault
phased f Running = Running
phased f Closed = Closed
phased f (Shut x) = Shut (f x)

-- the standing fault
abbrev pub stands : {F : Type 0} → Phase F → Option F
stands Running = None
stands Closed = None
stands (Shut f) = Some f

-- the phase after an accepted order
abbrev pub gone : Bool → Phase Fault
gone true = Closed
gone false = Running

-- whether orders are still taken, or the cause that each is refused with
abbrev pub running : {F : Type 0} → Phase F → Result ⊤ Cause
running Running = Ok tt
running Closed = Err AfterClose
running (Shut f) = Err AfterShut

-- a refusal of the layer's own shuts it, unless its cause leaves all as it was
abbrev pub refused : {F : Type 0} → Cause → F → Phase F → Phase F
refused c f p = cond (leaves c) p (Shut f)

-- a refusal from below shuts
abbrev pub settled : {T F : Type 0} → Result T F → Phase F → Phase F
settled (Ok x) p = p
settled (Err f) p = Shut f

-- what shut it, if anything did, arose in the layer
abbrev pub ShutIn : Layer → Phase OwnFault → Type 0
ShutIn l p = ForSome (stands p) (λ f. layer_number f.layer ≡ layer_number l)
