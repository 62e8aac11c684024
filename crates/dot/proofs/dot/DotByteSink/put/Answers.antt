use Rattle.std.proofs.Common.{sym, refl, ap, ◌∙◌}
use Rattle.fault.specs.declared.cause.Cause.TheVariants.{Unpaired}
use Rattle.std.proofs.lemmas.Result.{err_from_is_err_and}
use Rattle.fault.specs.Answers.{answer, told}
use Rattle.fault.specs.Kinds.{layer_fault}
use Rattle.sink.specs.Sink.{put}
use Rattle.orders.specs.Phases.{phased, settled}
use Rattle.dot.specs.Dot.{dot, doubled}
use Rattle.orders.proofs.Answering.{answer_err, answer_ok}
use Rattle.orders.proofs.Phases.{runs}
use Rattle.layer.proofs.ByPhase.{in_over, in_own, in_ok, in_err}
use Rattle.dot.proofs.Moves.{dot_stirs, puts_on, puts_not}
use Rattle.dot.proofs.dot.DotByteSink.put.Goals as goal

pub returns-in_err-going-clause-answered : goal.returns-in_err-going-clause-answered
returns-in_err-going-clause-answered g c =
    let s = c.args.self.now in
    let d = in_over dot layer_fault (g.S.ByteSink.means s.below) s.line s.phase s.place (put c.args.b) (layer_fault c.in_err-going.field-0.0) (sym c.in_err-going.ensures) in
    let r = err_from_is_err_and c.from_residual.result c.from_residual.ensures.1 in
    rw (r.1, r.2) (sym (ap (answer tt) d.tells))

pub returns-in_err-going-clause-changed : goal.returns-in_err-going-clause-changed
returns-in_err-going-clause-changed g c =
    let s = c.args.self.now in
    let d = in_over dot layer_fault (g.S.ByteSink.means s.below) s.line s.phase s.place (put c.args.b) (layer_fault c.in_err-going.field-0.0) (sym c.in_err-going.ensures) in
    d.leads

pub returns-in_default-clause-answered : goal.returns-in_default-clause-answered
returns-in_default-clause-answered g c =
    let s = c.args.self.now in
    let d = in_own dot layer_fault (g.S.ByteSink.means s.below) s.line s.phase s.place (put c.args.b) (runs _ _ _ (sym c.in_ok-going.ensures)) Unpaired (puts_not s.line c.args.b (sym c.next_line.ensures ∙ c.in_default.is)) refl (layer_fault c.refuse.result) c.refuse.ensures.fault s.line in
    sym (ap (answer tt) d.tells)

pub returns-in_default-clause-changed : goal.returns-in_default-clause-changed
returns-in_default-clause-changed g c =
    let s = c.args.self.now in
    let d = in_own dot layer_fault (g.S.ByteSink.means s.below) s.line s.phase s.place (put c.args.b) (runs _ _ _ (sym c.in_ok-going.ensures)) Unpaired (puts_not s.line c.args.b (sym c.next_line.ensures ∙ c.in_default.is)) refl (layer_fault c.refuse.result) c.refuse.ensures.fault s.line in
    rw c.refuse.ensures.left d.leads

pub returns-in_err-settle-clause-answered : goal.returns-in_err-settle-clause-answered
returns-in_err-settle-clause-answered g c =
    let s = c.args.self.now in
    let ran = c.send-sent.ensures in
    let e = c.in_err-settle.ensures.answered in
    let on = puts_on s.line c.in-Some.after c.args.b c.doubles.result c.in-Some.ensures c.doubles.ensures in
    let d = in_err dot layer_fault (g.S.ByteSink.means s.below) s.line s.phase s.place (put c.args.b) (runs _ _ _ (sym c.in_ok-going.ensures)) (doubled c.doubles.result c.args.b) c.in-Some.after on _ ran.changed (layer_fault c.in_err-settle.field-0.0) (answer_err tt _ _ (ap (told layer_fault) e ∙ ran.answered)) s.line in
    let r = err_from_is_err_and c.from_residual-in_err-settle.result c.from_residual-in_err-settle.ensures.1 in
    rw (r.1, r.2) (sym (ap (answer tt) d.tells))

pub returns-in_err-settle-clause-changed : goal.returns-in_err-settle-clause-changed
returns-in_err-settle-clause-changed g c =
    let s = c.args.self.now in
    let ran = c.send-sent.ensures in
    let e = c.in_err-settle.ensures.answered in
    let on = puts_on s.line c.in-Some.after c.args.b c.doubles.result c.in-Some.ensures c.doubles.ensures in
    let d = in_err dot layer_fault (g.S.ByteSink.means s.below) s.line s.phase s.place (put c.args.b) (runs _ _ _ (sym c.in_ok-going.ensures)) (doubled c.doubles.result c.args.b) c.in-Some.after on _ ran.changed (layer_fault c.in_err-settle.field-0.0) (answer_err tt _ _ (ap (told layer_fault) e ∙ ran.answered)) s.line in
    rw (c.in_err-settle.ensures.left ∙ ap (λ r. settled r s.phase) (sym e)) d.leads

pub returns : goal.returns
returns g c =
    let s = c.args.self.now in
    let ran = c.send-sent.ensures in
    let e = c.in_ok-settle.ensures.answered in
    let run = runs _ _ s.phase (sym c.in_ok-going.ensures) in
    let on = puts_on s.line c.in-Some.after c.args.b c.doubles.result c.in-Some.ensures c.doubles.ensures in
    let d = in_ok dot layer_fault (g.S.ByteSink.means s.below) s.line s.phase s.place (put c.args.b) run (doubled c.doubles.result c.args.b) c.in-Some.after on _ ran.changed dot_stirs (answer_ok tt tt _ (ap (told layer_fault) e ∙ ran.answered)) (phased layer_fault c.settle.new.self) (ap (phased layer_fault) (c.in_ok-settle.ensures.left ∙ ap (λ r. settled r s.phase) (sym e) ∙ run)) _ c.saturating_add-self.ensures in
    record { answered = sym (ap (answer tt) d.tells); changed = d.leads; behind = ran.behind }
