use Rattle.std.proofs.Common.{◌+◌, length}
use Rattle.composer.proofs.Taking.{Going}
use Rattle.composer.proofs.held_line.HeldLine.take_plain.Given as goal

abbrev pub invariant-loop-piece : goal.invariant-loop-piece
invariant-loop-piece g l =
    Going l.initial.self l.self l.b (g.S.ByteSink.means l.initial.below) (g.S.ByteSink.means l.below) (g.S.ByteSink.memory l.initial.below) (g.S.ByteSink.memory l.below)

abbrev pub decreases-loop-piece : goal.decreases-loop-piece
decreases-loop-piece g l = length l.self.line.items + l.self.spaces
