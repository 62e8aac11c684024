use Rattle.std.proofs.Common.{◌≡◌, cond, Some, Ok, Err, sym, ap, ap₂, ◌∙◌, refl}
use Rattle.std.proofs.lemmas.Result.{err_from_is_err_and}
use Rattle.fault.specs.declared.layer.Layer.TheVariants.{End}
use Rattle.fault.specs.Faults.{own}
use Rattle.fault.specs.Answers.{answer, arisen}
use Rattle.fault.specs.Kinds.{own_fault}
use Rattle.orders.specs.declared.phase.Phase.TheVariants.{Shut}
use Rattle.orders.specs.Steps.{shown}
use Rattle.orders.specs.Phases.{phased, running}
use Rattle.orders.proofs.Answering.{answer_ok, answer_err}
use Rattle.orders.proofs.Phases.{runs}
use Rattle.sink.specs.Sink.{close, Sink}
use Rattle.ends.specs.Ends.{end_means}
use Rattle.ends.proofs.Steps.{in_over, in_finished, in_unfinished}
use Rattle.ends.proofs.end.EndByteSink.close.Goals as goal

pub returns-in_err-going : goal.returns-in_err-going
returns-in_err-going g c =
    let s = c.args.self.now in
    let d = in_over (g.H.Holder.permit s.holder) (g.H.Holder.foot s.holder) own_fault s.phase close _ (c.in_err-going.ensures ∙ ap (λ n. arisen End n (running s.phase)) c.place-n.ensures) in
    let p = err_from_is_err_and c.from_residual.result c.from_residual.ensures.1 in
    record { answered = rw (p.1, p.2) (sym (ap (answer _) d.tells)); changed = d.leads; behind = refl }

pub returns : goal.returns
returns g c =
    let s = c.args.self.now in
    let opened = runs End _ s.phase (sym c.in_ok-going.ensures) in
    let d = in_finished (g.H.Holder.permit s.holder) (g.H.Holder.foot s.holder) own_fault s.phase opened (answer_ok tt tt _ c.in_default.ensures) in
    record {
      answered = ap Ok c.place-n.ensures ∙ ap₂ answer (ap (λ (m : Sink). shown m.foot) d.leads) (sym d.tells);
      changed = d.leads;
      behind = refl;
    }

pub returns-in-Err : goal.returns-in-Err
returns-in-Err g c =
    let s = c.args.self.now in
    let p = g.H.Holder.permit s.holder in
    let foot = g.H.Holder.foot s.holder in
    let f = own c.in-Err.cause End (shown foot) in
    let opened = runs End _ s.phase (sym c.in_ok-going.ensures) in
    let ends : p.ending foot ≡ Some f = answer_err tt f _ c.in-Err.ensures in
    let d = in_unfinished p foot own_fault s.phase f opened ends ((g.H.Holder.hard s.holder).ending foot f ends) in
    let same_fault : own_fault c.refuse.result ≡ f = c.refuse.ensures.fault ∙ ap (λ n. own c.in-Err.cause End n) c.place-n.ensures in
    let shut : c.refuse.new.self ≡ Shut c.refuse.result = c.refuse.ensures.left ∙ ap (λ x. cond x s.phase (Shut c.refuse.result)) ((g.H.Holder.hard s.holder).ending foot f ends) in
    record {
      answered = ap Err same_fault ∙ sym (ap (answer _) d.tells);
      changed = (λ i. end_means p foot (phased own_fault (shut i))) ∙ (λ i. end_means p foot (Shut (same_fault i))) ∙ d.leads;
      behind = refl;
    }
