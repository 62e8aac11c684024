use Rattle.std.proofs.Common.{replicate, Ok}
use Rattle.composer.specs.Sending.{Sends}
use Rattle.composer.proofs.wire.send_repeated.Given as goal

abbrev pub invariant-loop : goal.invariant-loop
invariant-loop g l =
    Sends (g.S.ByteSink.means l.initial.below) (g.S.ByteSink.means l.below) (g.S.ByteSink.memory l.initial.below) (g.S.ByteSink.memory l.below) (replicate l.counter l.b) (Ok tt)
