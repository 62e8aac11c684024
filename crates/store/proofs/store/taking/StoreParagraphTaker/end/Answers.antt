use Rattle.std.proofs.Common.{refl, sym, ◌∙◌}
use Rattle.std.proofs.lemmas.Result.{err_from_is_err_and}
use Rattle.orders.specs.Steps.{value}
use Rattle.taker.specs.Paragraph.{ends}
use Rattle.store.specs.Meant.{meant}
use Rattle.store.proofs.Asking.{let_pass}
use Rattle.store.proofs.Orders.{end_took}
use Rattle.store.proofs.Replying.{runs_on, passes_on, took_from, replies, turned_reply}
use Rattle.store.proofs.store.taking.StoreParagraphTaker.end.Goals as goal

pub returns-in_err-admit : goal.returns-in_err-admit
returns-in_err-admit c =
    let a = c.args.self.now in
    let o = ends c.args.number in
    let r = err_from_is_err_and c.from_residual.result c.from_residual.ensures.1 in
    let h = c.in_err-admit.ensures in
    let t = turned_reply a c.admit.new.self o (value (meant a) o) _ c.in_err-admit.field-0.0 c.may_end.ensures h.cause h.refused in
    rw (r.1, r.2) (record { answered = t.answered; changed = t.changed; kept = t.kept })

pub returns : goal.returns
returns c =
    let a = c.args.self.now in
    let b = c.admit.new.self in
    let o = ends c.args.number in
    let i = c.in_ok-admit.ensures in
    let p = let_pass a b o i.same (sym c.may_end.ensures ∙ i.value) in
    let t = took_from a b o p _ (end_took b (runs_on a b o p) c.args.number (passes_on a b o p) _ c.write_end.ensures) in
    record { answered = replies a _ o p.goes_on refl t; changed = t.left; kept = t.kept }
