use Rattle.std.proofs.Common.{length, ap, arith}
use Rattle.plain_text.specs.Paragraphs.{paragraphs_of}
use Rattle.plain_text.proofs.Lining.{cut_as_stated}
use Rattle.plain_text.proofs.Firsts.{paragraphs_few}
use Rattle.plain_text.proofs.Handling.{through_more, through_refused, through_all}
use Rattle.plain_text.proofs.lines.hand_lines.Goals as goal

pub overflow_add-paragraphs : goal.overflow_add-paragraphs
overflow_add-paragraphs g c = omega (arith, c.loop-line.invariant.0.room, ap length c.in-Some.ensures.steps, paragraphs_few c.args.depths c.args.text.now)

pub overflow_add-result : goal.overflow_add-result
overflow_add-result g c = omega (arith, c.loop-line.invariant.0.room, ap length c.in-Some.ensures.steps, paragraphs_few c.args.depths c.args.text.now)

pub returns-in-Err : goal.returns-in-Err
returns-in-Err g c =
    let d = c.hand_paragraph.new.taker in
    let h = c.in-Err.ensures in
    let all = through_refused {ps = paragraphs_of c.args.depths c.args.text.now} c.loop-line.invariant.0 c.in-Some.ensures.steps (g.T.ParagraphTaker.means d) (g.T.TakerFault.Refusal.means c.in-Err.f) h.whole in
    record {
      grown = (all.steps, all.grows);
      handed = all;
      cut = cut_as_stated c.args.text.now;
      kept = g.T.ParagraphTaker.chained c.args.taker.now c.loop-line.taker d c.loop-line.invariant.1 h.kept;
    }

pub loop-line-preserved : goal.loop-line-preserved
loop-line-preserved g c =
    let d = c.hand_paragraph.new.taker in
    let h = c.in-Ok.ensures in (
      through_more {ps = paragraphs_of c.args.depths c.args.text.now} c.loop-line.invariant.0 c.in-Some.ensures.steps (g.T.ParagraphTaker.means d) c.in-Ok.n c.saturating_add-lines.result h.whole c.saturating_add-lines.ensures,
      g.T.ParagraphTaker.chained c.args.taker.now c.loop-line.taker d c.loop-line.invariant.1 h.kept,
    )

pub returns-clause-handed : goal.returns-clause-handed
returns-clause-handed g c = through_all {ps = paragraphs_of c.args.depths c.args.text.now} c.loop-line.invariant.0 c.in-None.ensures.steps.0

pub returns-clause-cut : goal.returns-clause-cut
returns-clause-cut g c = cut_as_stated c.args.text.now
