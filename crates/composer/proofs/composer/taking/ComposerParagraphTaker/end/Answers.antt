use Rattle.std.proofs.Common.{sym, refl, ap, ◌∙◌}
use Rattle.std.proofs.lemmas.Result.{err_from_is_err_and}
use Rattle.fault.specs.Answers.{answer, told}
use Rattle.fault.specs.Kinds.{layer_fault}
use Rattle.taker.specs.Paragraph.{ends}
use Rattle.composer.proofs.Outcomes.{came_checked, goes_on, came_told}
use Rattle.composer.proofs.Paragraphs.{end_open}
use Rattle.composer.proofs.composer.taking.ComposerParagraphTaker.end.Goals as goal

pub returns-in_err-checked : goal.returns-in_err-checked
returns-in_err-checked g c =
    let r = err_from_is_err_and c.from_residual.result c.from_residual.ensures.1 in
    let k = came_checked g.S.ByteSink.means g.S.ByteSink.memory (ends c.args.number) c.args.self.now c.checked.new.self c.may_end.result c.may_end.ensures _ c.in_err-checked.ensures in
    rw (r.1, r.2) (record { answered = sym (ap (answer _) k.tells); changed = k.leads; kept = k.kept })

pub end-sent-requires : goal.end-sent-requires
end-sent-requires g c = end_open _ _ _ (goes_on g.S.ByteSink.means g.S.ByteSink.memory (ends c.args.number) c.args.self.now c.checked.new.self c.may_end.result c.may_end.ensures _ c.in_ok-checked.ensures).none

pub returns : goal.returns
returns g c =
    let d = c.checked.new.self in
    let goes = goes_on g.S.ByteSink.means g.S.ByteSink.memory (ends c.args.number) c.args.self.now c.checked.new.self c.may_end.result c.may_end.ensures _ c.in_ok-checked.ensures in
    let t = c.end-sent.ensures in
    let k = came_told g.S.ByteSink.means g.S.ByteSink.memory (ends c.args.number) c.args.self.now d goes c.end-sent.new.below c.end-sent.new.self c.end-sent.result t.sends.answered t.tells t.sends.changed t.sends.behind refl refl (λ i. record { width = t.width i; opened = d.opened; paragraph = t.closed i }) c.shut_by.new.self c.shut_by.ensures.left in
    record { answered = ap (told layer_fault) c.shut_by.ensures.answered ∙ k.answered; changed = k.changed; kept = k.kept }
