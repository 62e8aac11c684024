-- What each kind of fault means.
use Rattle.fault.specs.declared.fault.Fault.{Fault}
use Rattle.fault.specs.declared.own_fault.OwnFault.{OwnFault}
use Rattle.fault.specs.declared.layer_fault.LayerFault.{LayerFault}
use Rattle.fault.specs.Faults.{own}

-- of an end, a store and an undoing stage, which have no layer below
abbrev pub own_fault : OwnFault → Fault
own_fault f = own f.cause f.layer f.place

-- of a stage, a composer and a reader
abbrev pub layer_fault : LayerFault → Fault
layer_fault f = f.0
