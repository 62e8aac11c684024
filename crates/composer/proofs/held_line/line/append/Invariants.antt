use Rattle.std.proofs.Common.{◌≡◌, ◌++◌, replicate}
use Rattle.folding.specs.Text.{space}
use Rattle.composer.proofs.held_line.line.append.Given as goal

abbrev pub invariant-loop : goal.invariant-loop
invariant-loop l = l.line.items ≡ l.initial.line.items ++ replicate l.counter space
