use Rattle.std.proofs.Common.{true, sym, ap, ◌∙◌}
use Rattle.std.proofs.lemmas.Result.{err_from_is_err_and}
use Rattle.fault.specs.Answers.{answer, told}
use Rattle.fault.specs.Kinds.{layer_fault}
use Rattle.orders.specs.Phases.{phased}
use Rattle.orders.specs.Steps.{place_on}
use Rattle.orders.proofs.Answering.{answer_err, answer_ok}
use Rattle.taker.specs.Paragraph.{texts}
use Rattle.composer.proofs.Outcomes.{same_place, came_by, came_checked, goes_on, passed, came_accepted, came_stopped}
use Rattle.composer.proofs.composer.taking.ComposerParagraphTaker.put.Goals as goal

pub returns-in_err-checked : goal.returns-in_err-checked
returns-in_err-checked g c =
    let r = err_from_is_err_and c.from_residual.result c.from_residual.ensures.1 in
    let k = came_checked g.S.ByteSink.means g.S.ByteSink.memory (texts c.args.b) c.args.self.now c.checked.new.self c.may_take.result c.may_take.ensures _ c.in_err-checked.ensures in
    rw (r.1, r.2) (record { answered = sym (ap (answer _) k.tells); changed = k.leads; kept = k.kept })

pub take-sent-requires : goal.take-sent-requires
take-sent-requires g c = (goes_on g.S.ByteSink.means g.S.ByteSink.memory (texts c.args.b) c.args.self.now c.checked.new.self c.may_take.result c.may_take.ensures _ c.in_ok-checked.ensures).none

pub returns-in_err-shut_by : goal.returns-in_err-shut_by
returns-in_err-shut_by g c =
    let r = err_from_is_err_and c.from_residual-in_err-shut_by.result c.from_residual-in_err-shut_by.ensures.1 in
    let goes = goes_on g.S.ByteSink.means g.S.ByteSink.memory (texts c.args.b) c.args.self.now c.checked.new.self c.may_take.result c.may_take.ensures _ c.in_ok-checked.ensures in
    let t = c.take-sent.ensures in
    let is = sym c.in_err-shut_by.ensures.answered in
    let fault = answer_err tt _ _ (ap (told layer_fault) (sym is) ∙ t.sends.answered) in
    let k = came_stopped g.S.ByteSink.means g.S.ByteSink.memory (texts c.args.b) c.args.self.now c.checked.new.self goes _ _ _ c.take-sent.result _ is fault t.sends.changed t.sends.behind c.shut_by.new.self c.in_err-shut_by.ensures.left in
    rw (r.1, r.2) (record { answered = sym (ap (answer tt) k.tells); changed = k.leads; kept = k.kept })

pub returns : goal.returns
returns g c =
    let d = c.checked.new.self in
    let goes = goes_on g.S.ByteSink.means g.S.ByteSink.memory (texts c.args.b) c.args.self.now c.checked.new.self c.may_take.result c.may_take.ensures _ c.in_ok-checked.ensures in
    let t = c.take-sent.ensures in
    let is = sym c.in_ok-shut_by.ensures.answered in
    let fine = ap (told layer_fault) is in
    let fault = answer_ok tt tt _ (sym fine ∙ t.sends.answered) in
    let at = passed d c.shut_by.new.self c.take-sent.new.below c.take-sent.new.self c.take-sent.result tt is c.in_ok-shut_by.ensures.left in
    let place = c.saturating_add-self.ensures ∙ ap (place_on true) (same_place _ _ at) in
    let k = came_by g.S.ByteSink.means g.S.ByteSink.memory (texts c.args.b) (λ u. record { below = u.below; opened = u.opened; paragraph = u.paragraph; phase = u.phase; place = c.saturating_add-self.result }) c.args.self.now _ _ _ at
    (came_accepted g.S.ByteSink.means g.S.ByteSink.memory (texts c.args.b) c.args.self.now d goes fault (record { below = c.take-sent.new.below; opened = d.opened; paragraph = c.take-sent.new.self; phase = d.phase; place = c.saturating_add-self.result }) t.sends.changed (λ i. record { width = t.width i; opened = d.opened; paragraph = t.within fine i }) (ap (phased layer_fault) goes.run) place t.sends.behind) in
    record { answered = sym (ap (answer tt) k.tells); changed = k.leads; kept = k.kept }
