-- Answers: a value, or a fault.
use Rattle.std.specs.Prelude.{ℕ, Some, None, Ok, Err, Option, Result}
use Rattle.fault.specs.declared.fault.Fault.{Fault}
use Rattle.fault.specs.declared.cause.Cause.{Cause}
use Rattle.fault.specs.declared.layer.Layer.{Layer}
use Rattle.fault.specs.Faults.{own, raise}

-- the answer r, by the fault that it means
abbrev pub told : {T E : Type 0} → (E → Fault) → Result T E → Result T Fault
told f (Ok x) = Ok x
told f (Err e) = Err (f e)

-- x, unless there is a fault
abbrev pub answer : {T : Type 0} → T → Option Fault → Result T Fault
answer x None = Ok x
answer x (Some f) = Err f

-- the fault that is kept, if any
abbrev pub via : {E : Type 0} → (E → Fault) → Option E → Option Fault
via f None = None
via f (Some e) = Some (f e)

abbrev pub raised : Option Fault → Option Fault
raised None = None
raised (Some f) = Some (raise f)

-- the first of two faults
abbrev pub or_else : Option Fault → Option Fault → Option Fault
or_else (Some f) g = Some f
or_else None g = g

-- an answer with a cause, as a fault that arises in the layer, at the place
abbrev pub arisen : {T : Type 0} → Layer → ℕ → Result T Cause → Result T Fault
arisen l n (Ok x) = Ok x
arisen l n (Err c) = Err (own c l n)
