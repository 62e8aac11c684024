use Rattle.std.proofs.Common.{◌-◌, ◌<◌, ◌^◌}
use Rattle.flowed.proofs.compose_mail.compose_whole.Given as goal

abbrev pub invariant-loop-memory : goal.invariant-loop-memory
invariant-loop-memory l = 0 < l.size

abbrev pub decreases-loop-memory : goal.decreases-loop-memory
decreases-loop-memory l = 2 ^ 64 - l.size
