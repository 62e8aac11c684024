use Rattle.std.proofs.Common.{sym, refl, ap, ap₂, ◌∙◌}
use Rattle.std.proofs.lemmas.Result.{err_from_is_err_and}
use Rattle.fault.specs.Answers.{answer, told}
use Rattle.fault.specs.Kinds.{layer_fault}
use Rattle.orders.specs.declared.phase.Phase.TheVariants.{Closed}
use Rattle.orders.proofs.Answering.{answer_err, answer_ok}
use Rattle.taker.specs.Paragraph.{finishes}
use Rattle.composer.proofs.Outcomes.{came_by, came_checked, goes_on, passed, came_accepted, came_stopped, came_value}
use Rattle.composer.proofs.composer.taking.ComposerParagraphTaker.finish.Goals as goal

pub returns-in_err-checked : goal.returns-in_err-checked
returns-in_err-checked g c =
    let r = err_from_is_err_and c.from_residual.result c.from_residual.ensures.1 in
    let k = came_checked g.S.ByteSink.means g.S.ByteSink.memory finishes c.args.self.now c.checked.new.self c.may_finish.result c.may_finish.ensures _ c.in_err-checked.ensures in
    rw (r.1, r.2) (record { answered = sym (ap (answer _) k.tells); changed = k.leads; kept = k.kept })

pub returns-in_err-n : goal.returns-in_err-n
returns-in_err-n g c =
    let r = err_from_is_err_and c.from_residual-in_err-n.result c.from_residual-in_err-n.ensures.1 in
    let goes = goes_on g.S.ByteSink.means g.S.ByteSink.memory finishes c.args.self.now c.checked.new.self c.may_finish.result c.may_finish.ensures _ c.in_ok-checked.ensures in
    let t = c.send_close-closed.ensures in
    let is = sym c.in_err-n.ensures.answered in
    let fault = answer_err _ _ _ (ap (told layer_fault) (sym is) ∙ t.answered) in
    let k = came_stopped g.S.ByteSink.means g.S.ByteSink.memory finishes c.args.self.now c.checked.new.self goes _ _ _ c.send_close-closed.result _ is fault t.changed t.behind c.shut_by.new.self c.in_err-n.ensures.left in
    rw (r.1, r.2) (record { answered = sym (ap (answer _) k.tells); changed = k.leads; kept = k.kept })

pub returns : goal.returns
returns g c =
    let d = c.checked.new.self in
    let goes = goes_on g.S.ByteSink.means g.S.ByteSink.memory finishes c.args.self.now c.checked.new.self c.may_finish.result c.may_finish.ensures _ c.in_ok-checked.ensures in
    let t = c.send_close-closed.ensures in
    let is = sym c.in_ok-n.ensures.answered in
    let fine = sym (ap (told layer_fault) is) ∙ t.answered in
    let fault = answer_ok _ _ _ fine in
    let at = passed d c.shut_by.new.self c.send_close-closed.new.below d.paragraph c.send_close-closed.result c.in_ok-n.n is c.in_ok-n.ensures.left in
    let k = came_accepted g.S.ByteSink.means g.S.ByteSink.memory finishes c.args.self.now d goes fault (record { below = c.send_close-closed.new.below; opened = d.opened; paragraph = d.paragraph; phase = Closed; place = d.place }) t.changed refl refl refl t.behind in
    let v = came_value g.S.ByteSink.means g.S.ByteSink.memory finishes c.args.self.now d goes _ k 0 refl in
    let came = came_by g.S.ByteSink.means g.S.ByteSink.memory finishes (λ u. record { below = u.below; opened = u.opened; paragraph = u.paragraph; phase = Closed; place = u.place }) c.args.self.now c.shut_by.new.self _ _ at k in
    record { answered = fine ∙ ap₂ answer v (fault ∙ sym came.tells); changed = came.leads; kept = came.kept }
