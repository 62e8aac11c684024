-- Why a mail is not whole.
use Rattle.std.specs.Prelude.{ℕ, Bool, false, ◌&&◌, Some, None, Ok, Err, Option, Result, ◌==◌}
use Rattle.fault.specs.declared.layer_fault.LayerFault.{LayerFault}
use Rattle.fault.specs.declared.fault.Fault.{Fault}
use Rattle.fault.specs.Numbers.{cause_number, layer_number}
use Rattle.fault.specs.Kinds.{layer_fault}
use Rattle.compose_text.specs.declared.composed.Outcome.{Outcome}
use Rattle.flowed.specs.declared.mail_report.Unfinished.{Unfinished}
use Rattle.flowed.specs.declared.mail_report.Unfinished.TheVariants.{Line, Finish}

abbrev pub unfinished_at : Option (ℕ × LayerFault) → Option (Result ℕ LayerFault) → Option Unfinished
unfinished_at (Some p) fin = Some (Line p.0 (layer_fault p.1))
unfinished_at None (Some (Err f)) = Some (Finish (layer_fault f))
unfinished_at None (Some (Ok n)) = None
unfinished_at None None = None

-- the refused line, or the refused finish
abbrev pub unfinished : Outcome → Option Unfinished
unfinished o = unfinished_at o.handed.refused o.finish

-- the end's memory is full
abbrev pub memory_full : Fault → Bool
memory_full f = cause_number f.cause == 13 && layer_number f.layer == 7

abbrev pub fault_of : Unfinished → Fault
fault_of (Line n f) = f
fault_of (Finish f) = f

abbrev pub for_memory : Option Unfinished → Bool
for_memory None = false
for_memory (Some u) = memory_full (fault_of u)
