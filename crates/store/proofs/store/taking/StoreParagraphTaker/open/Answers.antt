use Rattle.std.proofs.Common.{ℕ, ◌+◌, refl, sym, ap, ◌∙◌, subst}
use Rattle.std.proofs.lemmas.Result.{err_from_is_err_and}
use Rattle.fault.specs.declared.cause.Cause.TheVariants.{Full}
use Rattle.orders.specs.Steps.{value}
use Rattle.taker.specs.Paragraph.{opens}
use Rattle.store.specs.declared.store.Store.{Store}
use Rattle.store.specs.Written.{Opened, Unopened}
use Rattle.store.specs.Meant.{meant, Turned}
use Rattle.store.proofs.Asking.{let_pass}
use Rattle.store.proofs.Orders.{open_took, open_full}
use Rattle.store.proofs.Replying.{runs_on, passes_on, says, turned_reply, written_reply}
use Rattle.store.proofs.store.taking.StoreParagraphTaker.open.Goals as goal

pub returns-in_err-admit : goal.returns-in_err-admit
returns-in_err-admit c =
    let a = c.args.self.now in
    let o = opens c.args.depth in
    let r = err_from_is_err_and c.from_residual.result c.from_residual.ensures.1 in
    let h = c.in_err-admit.ensures in
    let t = turned_reply a c.admit.new.self o (value (meant a) o) _ c.in_err-admit.field-0.0 c.may_open.ensures h.cause h.refused in
    rw (r.1, r.2) (record { answered = t.answered; changed = t.changed; kept = t.kept })

pub returns : goal.returns
returns c =
    let a = c.args.self.now in
    let b = c.admit.new.self in
    let d = c.write_open-number.new.self in
    let e = c.admit-2.new.self in
    let o = opens c.args.depth in
    let i = c.in_ok-admit.ensures in
    let p = let_pass a b o i.same (sym c.may_open.ensures ∙ i.value) in
    let w = c.write_open-number.ensures in
    let r = c.admit-2.ensures in
    let t = written_reply a b d e o (value (meant a) o) (λ (n : ℕ). Opened b d c.args.depth n) (Unopened b d) _ _ p w.opened (λ n h. (open_took b (runs_on a b o p) c.args.depth (passes_on a b o p) d n h, h.number ∙ ap (λ (s : Store). s.count + 1) p.same ∙ says a o p.goes_on refl)) w.full (λ f h t. open_full b (runs_on a b o p) c.args.depth (passes_on a b o p) h.full e f (subst (λ (s : Store). Turned s e Full f) h.same t)) w.cause r.same r.value r.cause r.refused in
    record { answered = t.answered; changed = t.changed; kept = t.kept }
