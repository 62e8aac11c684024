use Rattle.std.proofs.Common.{ℕ, List, [], get_or, subst}
use Rattle.std.proofs.lemmas.List.{drop_more}
use Rattle.carry.proofs.Passing.{Rest, went_through, none_stopped}
use Rattle.carry.proofs.Footing.{behind_on}
use Rattle.carry.proofs.back.pass_all.Goals as goal

pub returns-in-Err-clause-behind : goal.returns-in-Err-clause-behind
returns-in-Err-clause-behind g c = behind_on ((g.U.UndoStage.means c.loop-i.undoing).takes [] (get_or c.args.wire.now c.loop-i.i 0)) (g.S.ByteSink.means c.loop-i.sink) _ _ _ _ c.pass.ensures.sink c.loop-i.invariant.1 c.pass.ensures.behind

pub loop-i-preserved : goal.loop-i-preserved
loop-i-preserved g c =
    let xs = c.args.wire.now in
    let i = c.loop-i.i in
    let b = get_or xs i 0 in
    let u = g.U.UndoStage.means c.args.undoing.now in
    let v = g.U.UndoStage.means c.loop-i.undoing in
    let m = g.S.ByteSink.means c.args.sink.now in
    let n = g.S.ByteSink.means c.loop-i.sink in
    let h = subst (λ (r : List ℕ). Rest u v m n i xs r) (drop_more xs i 0 c.loop-i-test.true) c.loop-i.invariant.0 in
    let d = went_through u v m n i xs b _ h (none_stopped _ c.in_default.ensures.stop) in (
      rw (c.pass.ensures.undoing, c.pass.ensures.sink) d,
      behind_on (v.takes [] b) n _ _ _ _ c.pass.ensures.sink c.loop-i.invariant.1 c.pass.ensures.behind,
    )
