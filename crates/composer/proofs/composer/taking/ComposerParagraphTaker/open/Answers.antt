use Rattle.std.proofs.Common.{◌+◌, ◌<◌, sym, refl, ap, ap₂, arith}
use Rattle.std.proofs.lemmas.Result.{err_from_is_err_and}
use Rattle.fault.specs.Answers.{answer}
use Rattle.fault.specs.Kinds.{layer_fault}
use Rattle.orders.specs.Phases.{phased}
use Rattle.taker.specs.Paragraph.{opens}
use Rattle.composer.specs.Composers.{state_of}
use Rattle.composer.proofs.Outcomes.{came_checked, goes_on, came_accepted, came_value}
use Rattle.composer.proofs.Paragraphs.{few_opened, shallow_opened}
use Rattle.composer.proofs.composer.taking.ComposerParagraphTaker.open.Goals as goal

pub returns-in_err-checked : goal.returns-in_err-checked
returns-in_err-checked g c =
    let r = err_from_is_err_and c.from_residual.result c.from_residual.ensures.1 in
    let k = came_checked g.S.ByteSink.means g.S.ByteSink.memory (opens c.args.depth) c.args.self.now c.checked.new.self c.may_open.result c.may_open.ensures _ c.in_err-checked.ensures in
    rw (r.1, r.2) (record { answered = sym (ap (answer _) k.tells); changed = k.leads; kept = k.kept })

pub overflow_add-number : goal.overflow_add-number
overflow_add-number g c = let few : c.checked.new.self.opened < 1000000 = few_opened c.args.depth c.checked.new.self.opened (state_of c.checked.new.self).paragraph (goes_on g.S.ByteSink.means g.S.ByteSink.memory (opens c.args.depth) c.args.self.now c.checked.new.self c.may_open.result c.may_open.ensures _ c.in_ok-checked.ensures).none in omega arith

pub open-requires : goal.open-requires
open-requires g c = shallow_opened _ _ _ (goes_on g.S.ByteSink.means g.S.ByteSink.memory (opens c.args.depth) c.args.self.now c.checked.new.self c.may_open.result c.may_open.ensures _ c.in_ok-checked.ensures).none

pub returns : goal.returns
returns g c =
    let d = c.checked.new.self in
    let goes = goes_on g.S.ByteSink.means g.S.ByteSink.memory (opens c.args.depth) c.args.self.now c.checked.new.self c.may_open.result c.may_open.ensures _ c.in_ok-checked.ensures in
    let k = came_accepted g.S.ByteSink.means g.S.ByteSink.memory (opens c.args.depth) c.args.self.now d goes refl (record { below = d.below; opened = d.opened + 1; paragraph = c.open.new.self; phase = d.phase; place = d.place }) refl (λ i. record { width = c.open.ensures.width i; opened = d.opened + 1; paragraph = c.open.ensures.within i }) (ap (phased layer_fault) goes.run) refl refl in
    let v = came_value g.S.ByteSink.means g.S.ByteSink.memory (opens c.args.depth) c.args.self.now d goes _ k (d.opened + 1) refl in
    record { answered = ap₂ answer v (sym k.tells); changed = k.leads; kept = k.kept }
