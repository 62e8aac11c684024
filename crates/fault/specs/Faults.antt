-- How a fault arises and how it rises.
use Rattle.std.specs.Prelude.{ℕ, ◌+◌, min, Bool, nat_le}
use Rattle.fault.specs.declared.cause.Cause.{Cause}
use Rattle.fault.specs.declared.layer.Layer.{Layer}
use Rattle.fault.specs.declared.fault.Fault.{Fault}
use Rattle.fault.specs.Numbers.{cause_number}

-- the largest place, level or length that is told; a greater one is told as this
abbrev pub most : ℕ
most = 4294967295

-- where it arises
abbrev pub own : Cause → Layer → ℕ → Fault
own cause layer place = record { cause = cause; layer = layer; level = 0; place = place }

-- a level higher, cause, layer and place carried whole
abbrev pub raise : Fault → Fault
raise f = record { cause = f.cause; layer = f.layer; level = min (f.level + 1) most; place = f.place }

-- the causes 1 to 6, which leave all as it was where they are a layer's own
abbrev pub leaves : Cause → Bool
leaves c = nat_le (cause_number c) 6
