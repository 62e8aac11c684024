use Rattle.std.proofs.Common.{◌≡◌, ℕ, Ok, refl, sym, ap, ◌∙◌, arith}
use Rattle.std.proofs.lemmas.Result.{err_from_is_err_and}
use Rattle.orders.specs.declared.phase.Phase.TheVariants.{Closed}
use Rattle.orders.specs.Steps.{value}
use Rattle.taker.specs.Paragraph.{finishes}
use Rattle.store.specs.Meant.{meant}
use Rattle.store.proofs.Asking.{let_pass}
use Rattle.store.proofs.Orders.{finish_took}
use Rattle.store.proofs.Replying.{runs_on, passes_on, took_from, replies_finish, turned_reply}
use Rattle.store.proofs.store.taking.StoreParagraphTaker.finish.Goals as goal

pub returns-in_err-admit : goal.returns-in_err-admit
returns-in_err-admit c =
    let a = c.args.self.now in
    let r = err_from_is_err_and c.from_residual.result c.from_residual.ensures.1 in
    let h = c.in_err-admit.ensures in
    let t = turned_reply a c.admit.new.self finishes (value (meant a) finishes) _ c.in_err-admit.field-0.0 c.may_finish.ensures h.cause h.refused in
    rw (r.1, r.2) (record { answered = t.answered; changed = t.changed; kept = t.kept })

pub returns : goal.returns
returns c =
    let a = c.args.self.now in
    let b = c.admit.new.self in
    let i = c.in_ok-admit.ensures in
    let p = let_pass a b finishes i.same (sym c.may_finish.ensures ∙ i.value) in
    let t = took_from a b finishes p _ (finish_took b (runs_on a b finishes p) (passes_on a b finishes p) (record b { phase = Closed; named = λ x e. let z : ◌≡◌ {A = ℕ} 0 1 = cc in absurd (omega arith) }) refl refl) in
    record { answered = ap Ok c.taken.ensures ∙ replies_finish a _ t; changed = t.left; kept = t.kept }
