use Rattle.std.proofs.Common.{drop}
use Rattle.orders.specs.Behind.{Behind}
use Rattle.orders.proofs.Feeding.{Rest}
use Rattle.sink.specs.Sink.{put}
use Rattle.sink.proofs.feed.feed.Given as goal

abbrev pub invariant-loop-i : goal.invariant-loop-i
invariant-loop-i g l =
    Rest put (g.S.ByteSink.means l.initial.sink) (g.S.ByteSink.means l.sink) l.i l.chunk (drop l.i l.chunk)
    × Behind (g.S.ByteSink.means l.sink).foot (g.S.ByteSink.memory l.initial.sink) (g.S.ByteSink.memory l.sink)
