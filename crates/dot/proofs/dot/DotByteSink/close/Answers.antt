use Rattle.std.proofs.Common.{sym, refl, ap, ◌∙◌, ap₂}
use Rattle.std.proofs.lemmas.Result.{err_from_is_err_and}
use Rattle.fault.specs.declared.cause.Cause.TheVariants.{Incomplete}
use Rattle.fault.specs.Answers.{answer, told}
use Rattle.fault.specs.Kinds.{layer_fault}
use Rattle.orders.specs.Steps.{shown}
use Rattle.sink.specs.Sink.{close, Sink}
use Rattle.dot.specs.Stuffing.{end_mark}
use Rattle.dot.specs.Dot.{dot, dot_move}
use Rattle.dot.specs.declared.line.LineState.TheVariants.{Start}
use Rattle.orders.specs.declared.phase.Phase.TheVariants.{Closed}
use Rattle.orders.specs.Phases.{settled}
use Rattle.orders.proofs.Answering.{answer_err, answer_ok}
use Rattle.orders.proofs.Phases.{runs}
use Rattle.layer.proofs.ByPhase.{in_over, in_own, in_ok, in_err}
use Rattle.dot.proofs.Moves.{dot_stirs, closes_not}
use Rattle.dot.proofs.dot.DotByteSink.close.Goals as goal

pub returns-in_err-going-clause-answered : goal.returns-in_err-going-clause-answered
returns-in_err-going-clause-answered g c =
    let s = c.args.self.now in
    let d = in_over dot layer_fault (g.S.ByteSink.means s.below) s.line s.phase s.place close (layer_fault c.in_err-going.field-0.0) (sym c.in_err-going.ensures) in
    let r = err_from_is_err_and c.from_residual.result c.from_residual.ensures.1 in
    rw (r.1, r.2) (sym (ap (answer _) d.tells))

pub returns-in_err-going-clause-changed : goal.returns-in_err-going-clause-changed
returns-in_err-going-clause-changed g c =
    let s = c.args.self.now in
    let d = in_over dot layer_fault (g.S.ByteSink.means s.below) s.line s.phase s.place close (layer_fault c.in_err-going.field-0.0) (sym c.in_err-going.ensures) in
    d.leads

pub returns-in_default-clause-answered : goal.returns-in_default-clause-answered
returns-in_default-clause-answered g c =
    let s = c.args.self.now in
    let d = in_own dot layer_fault (g.S.ByteSink.means s.below) s.line s.phase s.place close (runs _ _ _ (sym c.in_ok-going.ensures)) Incomplete (closes_not s.line c.in_default.not-Start) refl (layer_fault c.refuse.result) c.refuse.ensures.fault s.line in
    sym (ap (answer _) d.tells)

pub returns-in_default-clause-changed : goal.returns-in_default-clause-changed
returns-in_default-clause-changed g c =
    let s = c.args.self.now in
    let d = in_own dot layer_fault (g.S.ByteSink.means s.below) s.line s.phase s.place close (runs _ _ _ (sym c.in_ok-going.ensures)) Incomplete (closes_not s.line c.in_default.not-Start) refl (layer_fault c.refuse.result) c.refuse.ensures.fault s.line in
    rw c.refuse.ensures.left d.leads

pub returns-in_err-n-clause-answered : goal.returns-in_err-n-clause-answered
returns-in_err-n-clause-answered g c =
    let s = c.args.self.now in
    let ran = c.send_end-closed.ensures in
    let e = c.in_err-n.ensures.answered in
    let d = in_err dot layer_fault (g.S.ByteSink.means s.below) s.line s.phase s.place close (runs _ _ _ (sym c.in_ok-going.ensures)) end_mark Start (ap (λ l. dot_move l close) c.in-Start.is) _ ran.changed (layer_fault c.in_err-n.field-0.0) (answer_err _ _ _ (ap (told layer_fault) e ∙ ran.answered)) s.line in
    let r = err_from_is_err_and c.from_residual-in_err-n.result c.from_residual-in_err-n.ensures.1 in
    rw (r.1, r.2) (sym (ap (answer _) d.tells))

pub returns-in_err-n-clause-changed : goal.returns-in_err-n-clause-changed
returns-in_err-n-clause-changed g c =
    let s = c.args.self.now in
    let ran = c.send_end-closed.ensures in
    let e = c.in_err-n.ensures.answered in
    let d = in_err dot layer_fault (g.S.ByteSink.means s.below) s.line s.phase s.place close (runs _ _ _ (sym c.in_ok-going.ensures)) end_mark Start (ap (λ l. dot_move l close) c.in-Start.is) _ ran.changed (layer_fault c.in_err-n.field-0.0) (answer_err _ _ _ (ap (told layer_fault) e ∙ ran.answered)) s.line in
    rw (c.in_err-n.ensures.left ∙ ap (λ r. settled r s.phase) (sym e)) d.leads

pub returns : goal.returns
returns g c =
    let s = c.args.self.now in
    let ran = c.send_end-closed.ensures in
    let e = c.in_ok-n.ensures.answered in
    let sent = ap (told layer_fault) e ∙ ran.answered in
    let d = in_ok dot layer_fault (g.S.ByteSink.means s.below) s.line s.phase s.place close (runs _ _ _ (sym c.in_ok-going.ensures)) end_mark Start (ap (λ l. dot_move l close) c.in-Start.is) _ ran.changed dot_stirs (answer_ok _ _ _ sent) Closed refl s.place refl in
    record { answered = sent ∙ ap₂ answer (ap (λ (m : Sink). shown m.foot) d.leads) (answer_ok _ _ _ sent ∙ sym d.tells); changed = d.leads; behind = ran.behind }
