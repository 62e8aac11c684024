-- What the store's own refusals come to.
use Rattle.std.proofs.Common.{◌≡◌, ℕ, min, Bool, true, false, Some, Ok, Err, vec_items, sym, refl, ap, ◌∙◌, subst, arith}
use Rattle.fault.specs.declared.fault.Fault.{Fault}
use Rattle.fault.specs.declared.cause.Cause.{Cause}
use Rattle.fault.specs.declared.cause.Cause.TheVariants.{AfterClose, AfterShut}
use Rattle.fault.specs.declared.layer.Layer.TheVariants.{Store as Layered}
use Rattle.fault.specs.declared.own_fault.OwnFault.{OwnFault}
use Rattle.fault.specs.Faults.{own, leaves, most}
use Rattle.fault.specs.Kinds.{own_fault}
use Rattle.orders.specs.declared.phase.Phase.{Phase}
use Rattle.orders.specs.declared.phase.Phase.TheVariants.{Running, Closed, Shut}
use Rattle.orders.specs.Phases.{phased, running}
use Rattle.orders.specs.Bottom.{Step, takes, stops}
use Rattle.orders.proofs.Did.{Did}
use Rattle.orders.proofs.Bottoms.{in_closed, in_shut, in_mild, in_own}
use Rattle.taker.specs.Paragraph.{Order}
use Rattle.store.specs.declared.store.Store.{Store}
use Rattle.store.specs.Events.{Event, told_by}
use Rattle.store.specs.Store.{Pages, at, store, store_step, store_permit}
use Rattle.store.specs.Contents.{Contents, contents, means_by}
use Rattle.store.specs.Meant.{meant, own_answer, and_then, allowed, phase_by, Turned, RefusedSo, LetPass}
use Rattle.store.specs.Keeps.{Kept, keeps_same}

answer_stops : (s : Step Pages Event) (c : Cause) → own_answer s ≡ Err c → s ≡ stops c
answer_stops (takes es t) c e = let z : ◌≡◌ {A = ℕ} 0 1 = cc in absurd (omega arith)
answer_stops (stops x) c e = let q : x ≡ c = cc in ap (λ (y : Cause). stops y) q

module _ (a b : Store) (o : Order) (c : Cause) (f : OwnFault) (t : Turned a b c f) where
  abbrev n : ℕ
  n = min a.used most

  abbrev arises : Fault
  arises = own c Layered n

  tells : Some arises ≡ Some (own_fault f)
  tells = ap (λ (g : OwnFault). Some (own_fault g)) (sym t.fault)

  kept : Kept (contents a) (contents b)
  kept = subst (λ (x : Contents). Kept (contents a) x) (sym t.holds) (keeps_same a)

  left_by : (x : Bool) → leaves c ≡ x → meant b ≡ means_by (contents a) (phased own_fault (phase_by x f a.phase))
  left_by x h = λ i. means_by (t.holds i) (phased own_fault ((t.phase ∙ ap (λ (y : Bool). phase_by y f a.phase) h) i))

  -- left as it was
  stays_so : leaves c ≡ true → Did (meant a) (meant a) o (Some arises) → RefusedSo a b o f
  stays_so h d = record { told = d.tells ∙ tells; left = left_by true h ∙ d.leads; kept = kept }

  -- shut
  pub shuts_so : leaves c ≡ false → Did (meant a) (means_by (contents a) (Shut arises)) o (Some arises) → RefusedSo a b o f
  shuts_so h d = record { told = d.tells ∙ tells; left = left_by false h ∙ ap (λ (g : OwnFault). means_by (contents a) (Shut (own_fault g))) t.fault ∙ d.leads; kept = kept }

  pub refused_so : allowed a o ≡ Err c → RefusedSo a b o f
  refused_so = go a.phase refl
    where
      by_cause : a.phase ≡ Running → store_step a.count a.inside o ≡ stops c → (x : Bool) → leaves c ≡ x → RefusedSo a b o f
      by_cause e q true h = stays_so h (in_mild store (store_permit (vec_items a.records) (vec_items a.bytes)) (told_by (vec_items a.records) (vec_items a.bytes) a.count a.inside) (at a.count a.inside) own_fault a.phase n o e c q h)
      by_cause e q false h = shuts_so h (in_own store (store_permit (vec_items a.records) (vec_items a.bytes)) (told_by (vec_items a.records) (vec_items a.bytes) a.count a.inside) (at a.count a.inside) own_fault a.phase n o e c q h (at a.count a.inside))

      over : (x : Cause) → x ≡ c → leaves x ≡ true → Did (meant a) (meant a) o (Some (own x Layered n)) → RefusedSo a b o f
      over x e h d = stays_so (ap leaves (sym e) ∙ h) (subst (λ (y : Cause). Did (meant a) (meant a) o (Some (own y Layered n))) e d)

      go : (p : Phase OwnFault) → a.phase ≡ p → and_then (running p) (own_answer (store_step a.count a.inside o)) ≡ Err c → RefusedSo a b o f
      go Running e h = by_cause e (answer_stops (store_step a.count a.inside o) c h) (leaves c) refl
      go Closed e h = let q : AfterClose ≡ c = cc in over AfterClose q refl (in_closed store (store_permit (vec_items a.records) (vec_items a.bytes)) (told_by (vec_items a.records) (vec_items a.bytes) a.count a.inside) (at a.count a.inside) own_fault a.phase n o e)
      go (Shut x) e h = let q : AfterShut ≡ c = cc in over AfterShut q refl (in_shut store (store_permit (vec_items a.records) (vec_items a.bytes)) (told_by (vec_items a.records) (vec_items a.bytes) a.count a.inside) (at a.count a.inside) own_fault a.phase n o x e)

-- an order that is let pass
pub let_pass : (a b : Store) (o : Order) → b ≡ a → allowed a o ≡ Ok tt → LetPass a b o
let_pass a b o s h = go a.phase refl h
  where
    go : (p : Phase OwnFault) → a.phase ≡ p → and_then (running p) (own_answer (store_step a.count a.inside o)) ≡ Ok tt → LetPass a b o
    go Running e q = record { same = s; goes_on = e; own_none = q }
    go Closed e q = let z : ◌≡◌ {A = ℕ} 0 1 = cc in absurd (omega arith)
    go (Shut x) e q = let z : ◌≡◌ {A = ℕ} 0 1 = cc in absurd (omega arith)
