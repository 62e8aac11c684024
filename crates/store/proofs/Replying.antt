-- What the store answers, once it let an order pass.
use Rattle.std.proofs.Common.{◌≡◌, ℕ, Bool, false, cond, [], Ok, Err, Result, OnOk, OnErr, IfOk, IfErr, sym, ap, ◌∙◌, subst, ap₂, arith}
use Rattle.std.specs.Prelude.{⊤}
use Rattle.fault.specs.declared.own_fault.OwnFault.{OwnFault}
use Rattle.fault.specs.declared.cause.Cause.{Cause}
use Rattle.fault.specs.declared.cause.Cause.TheVariants.{Full}
use Rattle.fault.specs.Answers.{told, answer}
use Rattle.fault.specs.Kinds.{own_fault}
use Rattle.orders.specs.declared.phase.Phase.{Phase}
use Rattle.orders.specs.declared.phase.Phase.TheVariants.{Running}
use Rattle.orders.specs.Phases.{phased}
use Rattle.orders.specs.Steps.{after, verdict, value, answered, shown}
use Rattle.orders.specs.Bottom.{bottom_says}
use Rattle.taker.specs.Paragraph.{Order, closes, Taker, finishes}
use Rattle.store.specs.declared.store.Store.{Store}
use Rattle.store.specs.Events.{Event}
use Rattle.store.specs.Store.{at, store, store_tells, store_step}
use Rattle.store.specs.Meant.{meant, own_answer, allowed, LetPass, Turned, RefusedSo}
use Rattle.store.specs.Keeps.{Keeps}
use Rattle.store.proofs.Asking.{refused_so}
use Rattle.store.proofs.Taking.{Took}

module _ (a b : Store) (o : Order) (p : LetPass a b o) where
  pub runs_on : b.phase ≡ Running
  runs_on = ap (λ (s : Store). s.phase) p.same ∙ p.goes_on

  pub passes_on : own_answer (store_step b.count b.inside o) ≡ Ok tt
  passes_on = ap (λ (s : Store). own_answer (store_step s.count s.inside o)) p.same ∙ p.own_none

  pub took_from : (d : Store) → Took b d o → Took a d o
  took_from d t = subst (λ (s : Store). Took s d o) p.same t

  pub refused_from : (d : Store) (f : OwnFault) → RefusedSo b d o f → RefusedSo a d o f
  refused_from d f t = subst (λ (s : Store). RefusedSo s d o f) p.same t

-- what an order of which v is the value came to
pub record Replied {T : Type 0} (a d : Store) (o : Order) (v : T) (r : Result T OwnFault) : Type 0 where
  pub answered : told own_fault r ≡ answer v (verdict (meant a) o)
  pub changed : meant d ≡ after (meant a) o
  pub kept : Keeps a d

pub took_reply : {T : Type 0} (a d : Store) (o : Order) (v : T) → Took a d o → Replied a d o v (Ok v)
took_reply a d o v t = record { answered = sym (ap (answer v) t.told); changed = t.left; kept = t.kept }

refused_reply : {T : Type 0} (a d : Store) (o : Order) (v : T) (f : OwnFault) → RefusedSo a d o f → Replied a d o v (Err f)
refused_reply a d o v f t = record { answered = sym (ap (answer v) t.told); changed = t.left; kept = t.kept }

-- turned down before anything was written; m is what it was asked
pub turned_reply : {T : Type 0} (a d : Store) (o : Order) (v : T) (m : Result ⊤ Cause) (f : OwnFault) → m ≡ allowed a o → m ≡ Err f.cause → Turned a d f.cause f → Replied a d o v (Err f)
turned_reply a d o v m f q e t = refused_reply a d o v f (refused_so a d o f.cause f t (sym q ∙ e))

-- an order that was let pass, and then written, or found no room
pub written_reply : {T : Type 0} (a b d e : Store) (o : Order) (v : T) (P : T → Type 0) (U : Type 0) (w : Result T Cause) (r : Result T OwnFault) → LetPass a b o → IfOk w P → ((x : T) → P x → Took b d o × (x ≡ v)) → OnErr w U → ((f : OwnFault) → U → Turned d e Full f → RefusedSo b e o f) → IfErr w (λ c. c ≡ Full) → OnOk r (e ≡ d) → IfOk r (λ x. w ≡ Ok x) → IfErr r (λ f. w ≡ Err f.cause) → IfErr r (λ f. Turned d e f.cause f) → Replied a e o v r
written_reply {T} a b d e o v P U (Ok x) (Ok y) p i took u full c s i' k t =
    let h = took x i in
    let q : x ≡ y = cc in
    rw s (subst (λ (z : T). Replied a d o v (Ok z)) (sym h.1 ∙ q) (took_reply a d o v (took_from a b o p d h.0)))
written_reply {T} a b d e o v P U (Ok x) (Err f) p i took u full c s i' k t = let z : ◌≡◌ {A = ℕ} 0 1 = cc in absurd (omega arith)
written_reply {T} a b d e o v P U (Err x) (Ok y) p i took u full c s i' k t = let z : ◌≡◌ {A = ℕ} 0 1 = cc in absurd (omega arith)
written_reply {T} a b d e o v P U (Err x) (Err f) p i took u full c s i' k t =
    let q : f.cause ≡ Full = cc in
    refused_reply a e o v f (refused_from a b o p e f (full f u (subst (λ (y : Cause). Turned d e y f) q t)))

-- an accepted order that does not close
pub says : (a : Store) (o : Order) → a.phase ≡ Running → closes o ≡ false → store_tells a.count o ≡ value (meant a) o
says a o run c =
    let s = ap (λ (ph : Phase OwnFault). bottom_says store (phased own_fault ph) (at a.count a.inside) [] o) run in
    sym (ap (λ (x : Bool). cond x (shown (after (meant a) o).foot) ((meant a).says [] o)) c ∙ s)

pub replies : (a d : Store) (o : Order) → a.phase ≡ Running → closes o ≡ false → Took a d o → Ok (store_tells a.count o) ≡ answered (meant a) o
replies a d o run c t = ap Ok (says a o run c) ∙ sym (ap (answer (value (meant a) o)) t.told)

-- finish answers the foot's length
pub replies_finish : (a d : Store) → Took a d finishes → Ok (shown (meant d).foot) ≡ answered (meant a) finishes
replies_finish a d t = sym (ap₂ answer (ap (λ (m : Taker Event). shown m.foot) (sym t.left)) t.told)
