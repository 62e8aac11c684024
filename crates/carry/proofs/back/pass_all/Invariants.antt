use Rattle.std.proofs.Common.{drop}
use Rattle.orders.specs.Behind.{Behind}
use Rattle.carry.proofs.Passing.{Rest}
use Rattle.carry.proofs.back.pass_all.Given as goal

abbrev pub invariant-loop-i : goal.invariant-loop-i
invariant-loop-i g l =
    Rest (g.U.UndoStage.means l.initial.undoing) (g.U.UndoStage.means l.undoing) (g.S.ByteSink.means l.initial.sink) (g.S.ByteSink.means l.sink) l.i l.wire (drop l.i l.wire)
    × Behind (g.S.ByteSink.means l.sink).foot (g.S.ByteSink.memory l.initial.sink) (g.S.ByteSink.memory l.sink)
