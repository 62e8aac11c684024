use Rattle.std.proofs.Common.{refl, sym, ◌∙◌, subst}
use Rattle.std.proofs.lemmas.Result.{err_from_is_err_and}
use Rattle.fault.specs.declared.cause.Cause.TheVariants.{Full}
use Rattle.taker.specs.Paragraph.{texts}
use Rattle.store.specs.declared.store.Store.{Store}
use Rattle.store.specs.Written.{Wrote, Unwritten}
use Rattle.store.specs.Meant.{Turned}
use Rattle.store.proofs.Asking.{let_pass}
use Rattle.store.proofs.Orders.{text_took, text_full}
use Rattle.store.proofs.Replying.{runs_on, passes_on, turned_reply, written_reply}
use Rattle.store.proofs.store.taking.StoreParagraphTaker.put.Goals as goal

pub returns-in_err-admit : goal.returns-in_err-admit
returns-in_err-admit c =
    let a = c.args.self.now in
    let o = texts c.args.b in
    let r = err_from_is_err_and c.from_residual.result c.from_residual.ensures.1 in
    let h = c.in_err-admit.ensures in
    let t = turned_reply a c.admit.new.self o tt _ c.in_err-admit.field-0.0 c.may_put.ensures h.cause h.refused in
    rw (r.1, r.2) (record { answered = t.answered; changed = t.changed; kept = t.kept })

pub returns : goal.returns
returns c =
    let a = c.args.self.now in
    let b = c.admit.new.self in
    let d = c.write_text-written.new.self in
    let e = c.admit-2.new.self in
    let o = texts c.args.b in
    let i = c.in_ok-admit.ensures in
    let p = let_pass a b o i.same (sym c.may_put.ensures ∙ i.value) in
    let w = c.write_text-written.ensures in
    let r = c.admit-2.ensures in
    let t = written_reply a b d e o tt (λ x. Wrote b d c.args.b) (Unwritten b d) _ _ p w.taken (λ x h. (text_took b (runs_on a b o p) c.args.b (passes_on a b o p) d h, refl)) w.full (λ f h t. text_full b (runs_on a b o p) c.args.b (passes_on a b o p) h.full e f (subst (λ (s : Store). Turned s e Full f) h.same t)) w.cause r.same r.value r.cause r.refused in
    record { answered = t.answered; changed = t.changed; kept = t.kept }
