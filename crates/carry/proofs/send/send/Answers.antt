use Rattle.std.proofs.Common.{sym, ap, ◌∙◌, ap₂}
use Rattle.fault.specs.Answers.{answer, via}
use Rattle.orders.specs.Steps.{shown, after, verdict}
use Rattle.orders.proofs.Growing.{behind_then}
use Rattle.sink.specs.Sink.{Sink, close}
use Rattle.carry.proofs.Sending.{cut_short, then_closed, whole_fault, whole_foot}
use Rattle.carry.proofs.send.send.Goals as goal

pub returns-in-Some : goal.returns-in-Some
returns-in-Some g c =
    let m = g.S.ByteSink.means c.args.sink.now in
    let bs = c.args.text.now in
    let fl = g.S.SinkFault.Refusal.means in
    let d = cut_short m bs (fl c.in-Some.f) (sym c.feed-refused.ensures.fault ∙ ap (via fl) c.in-Some.is) in
    let e = c.feed-refused.ensures.changed ∙ sym d.1 in
    record {
      answered = sym (ap (answer _) (sym (whole_fault m bs) ∙ d.0));
      foot = ap (λ (x : Sink). x.foot) e ∙ whole_foot m bs;
      changed = e;
      behind = c.feed-refused.ensures.behind;
    }

pub returns : goal.returns
returns g c =
    let m = g.S.ByteSink.means c.args.sink.now in
    let bs = c.args.text.now in
    let fl = g.S.SinkFault.Refusal.means in
    let d = then_closed m bs (sym c.feed-refused.ensures.fault ∙ ap (via fl) c.in_default.is) in
    let n = c.feed-refused.ensures.changed in
    let e = c.close.ensures.changed ∙ ap (λ (x : Sink). after x close) n ∙ sym d.1 in
    record {
      answered = c.close.ensures.answered ∙ ap₂ answer (ap (λ (x : Sink). shown x.foot) (sym c.close.ensures.changed)) (ap (λ (x : Sink). verdict x close) n ∙ sym d.0 ∙ whole_fault m bs);
      foot = ap (λ (x : Sink). x.foot) e ∙ whole_foot m bs;
      changed = e;
      behind = behind_then _ _ close _ _ _ c.close.ensures.changed c.feed-refused.ensures.behind c.close.ensures.behind;
    }
