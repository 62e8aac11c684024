use Rattle.std.proofs.Common.{Option, unwrap_or, ap, ◌∙◌}
use Rattle.std.specs.Result.{result_err}
use Rattle.fault.specs.declared.cause.Cause.{Cause}
use Rattle.fault.specs.declared.cause.Cause.TheVariants.{GivenUp}
use Rattle.taker.specs.Paragraph.{gives_up}
use Rattle.composer.specs.Composers.{state_of}
use Rattle.composer.proofs.Outcomes.{up_cause, came_refused}
use Rattle.composer.proofs.composer.taking.ComposerParagraphTaker.give_up.Goals as goal

pub returns : goal.returns
returns g c =
    let s = c.args.self.now in
    let up = c.unwrap_or-cause.ensures ∙ ap (λ (o : Option Cause). unwrap_or o GivenUp) (c.err.ensures.value ∙ ap result_err c.may_end.ensures) in
    let cause = up_cause s.phase c.args.number s.opened (state_of s).paragraph c.unwrap_or-cause.result up in
    let k = came_refused g.S.ByteSink.means g.S.ByteSink.memory (gives_up c.args.number) s c.refuse.new.self c.unwrap_or-cause.result cause c.refuse.result c.refuse.ensures in
    record { answered = k.tells; changed = k.leads; kept = k.kept }
