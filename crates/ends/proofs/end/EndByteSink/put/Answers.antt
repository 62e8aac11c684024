use Rattle.std.proofs.Common.{◌≡◌, cond, Some, Err, sym, ap, ◌∙◌, refl}
use Rattle.std.proofs.lemmas.Result.{err_from_is_err_and}
use Rattle.fault.specs.declared.layer.Layer.TheVariants.{End}
use Rattle.fault.specs.Faults.{own}
use Rattle.fault.specs.Answers.{answer, arisen}
use Rattle.fault.specs.Kinds.{own_fault}
use Rattle.orders.specs.declared.phase.Phase.TheVariants.{Shut}
use Rattle.orders.specs.Steps.{shown}
use Rattle.orders.specs.Phases.{phased, running}
use Rattle.orders.proofs.Answering.{answer_ok, answer_err}
use Rattle.orders.proofs.Phases.{runs}
use Rattle.sink.specs.Sink.{put}
use Rattle.ends.specs.Ends.{end_means}
use Rattle.ends.proofs.Steps.{in_over, in_taken, in_barred}
use Rattle.ends.proofs.end.EndByteSink.put.Goals as goal

pub returns-in_err-going : goal.returns-in_err-going
returns-in_err-going g c =
    let s = c.args.self.now in
    let d = in_over (g.H.Holder.permit s.holder) (g.H.Holder.foot s.holder) own_fault s.phase (put c.args.b) _ (c.in_err-going.ensures ∙ ap (λ n. arisen End n (running s.phase)) c.place-place.ensures) in
    let p = err_from_is_err_and c.from_residual.result c.from_residual.ensures.1 in
    record { answered = rw (p.1, p.2) (sym (ap (answer tt) d.tells)); changed = d.leads; behind = refl }

pub returns : goal.returns
returns g c =
    let s = c.args.self.now in
    let e = c.in_default.ensures in
    let opened = runs End _ s.phase (sym c.in_ok-going.ensures) in
    let d = in_taken (g.H.Holder.permit s.holder) (g.H.Holder.foot s.holder) own_fault s.phase c.args.b opened (answer_ok tt tt _ e.permitted) in
    record {
      answered = sym (ap (answer tt) d.tells);
      changed = (λ i. end_means (e.same i) (e.came i) (phased own_fault (opened i))) ∙ d.leads;
      behind = e.behind;
    }

pub returns-in-Err : goal.returns-in-Err
returns-in-Err g c =
    let s = c.args.self.now in
    let p = g.H.Holder.permit s.holder in
    let foot = g.H.Holder.foot s.holder in
    let e = c.in-Err.ensures in
    let f = own c.in-Err.cause End (shown foot) in
    let opened = runs End _ s.phase (sym c.in_ok-going.ensures) in
    let bars : p.bars foot c.args.b ≡ Some f = answer_err tt f _ e.permitted in
    let d = in_barred p foot own_fault s.phase c.args.b f opened bars ((g.H.Holder.hard s.holder).bars foot c.args.b f bars) in
    let hard = (g.H.Holder.hard s.holder).bars foot c.args.b f bars in
    let same_fault : own_fault c.refuse.result ≡ f = c.refuse.ensures.fault ∙ ap (λ n. own c.in-Err.cause End n) c.place-place.ensures in
    let shut : c.refuse.new.self ≡ Shut c.refuse.result = c.refuse.ensures.left ∙ ap (λ x. cond x s.phase (Shut c.refuse.result)) hard in
    record {
      answered = ap Err same_fault ∙ sym (ap (answer tt) d.tells);
      changed = (λ i. end_means (e.same i) (e.barred i) (phased own_fault (shut i))) ∙ (λ i. end_means p foot (Shut (same_fault i))) ∙ d.leads;
      behind = e.behind;
    }
