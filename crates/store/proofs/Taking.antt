-- What accepted orders and full memory come to.
use Rattle.std.proofs.Common.{◌≡◌, ℕ, ◌+◌, min, Bool, true, false, not, ◌&&◌, eqb, leb, List, [], ◌∷◌, ◌++◌, Some, None, Ok, vec_items, Option, refl, ap, ◌∙◌, subst, arith, ne_eqb}
use Rattle.fault.specs.declared.fault.Fault.{Fault}
use Rattle.fault.specs.declared.cause.Cause.{Cause}
use Rattle.fault.specs.declared.cause.Cause.TheVariants.{TooDeep, BarredByte, WrongNumber, Full}
use Rattle.fault.specs.declared.layer.Layer.TheVariants.{Store as Layered}
use Rattle.fault.specs.declared.own_fault.OwnFault.{OwnFault}
use Rattle.fault.specs.Faults.{own, most}
use Rattle.fault.specs.Kinds.{own_fault}
use Rattle.orders.specs.declared.phase.Phase.TheVariants.{Running}
use Rattle.orders.specs.Meaning.{Permit}
use Rattle.orders.specs.Permits.{fill, filled}
use Rattle.orders.specs.Phases.{gone}
use Rattle.orders.specs.Steps.{after, verdict, place_on, if_closing}
use Rattle.orders.specs.Bottom.{Step, takes, Stirs, bottom_means}
use Rattle.orders.proofs.Bottoms.{in_taken, in_barred}
use Rattle.taker.specs.Paragraph.{Order, opens, texts, ends, gives_up, finishes, closes, counts, barred}
use Rattle.store.specs.declared.store.Store.{Store}
use Rattle.store.specs.Events.{Event, opened, text, ended, told_by}
use Rattle.store.specs.Store.{Pages, at, unless, store, store_step, store_permit}
use Rattle.store.specs.Lawful.{unless_takes}
use Rattle.store.specs.Keeps.{Keeps}
use Rattle.store.specs.Meant.{meant, own_answer, Turned, RefusedSo}
use Rattle.store.proofs.Asking.{shuts_so}

unless_none : (x : Bool) (c : Cause) (y : Step Pages Event) → own_answer (unless x c y) ≡ Ok tt → unless x c y ≡ y
unless_none true c y e = let z : ◌≡◌ {A = ℕ} 0 1 = cc in absurd (omega arith)
unless_none false c y e = refl

-- an order that is not the store's own to refuse
pub open_step : (n : ℕ) (i : Bool) (d : ℕ) → own_answer (store_step n i (opens d)) ≡ Ok tt → (i ≡ false) × (store_step n i (opens d) ≡ takes (opened d ∷ []) (at n true))
open_step n false d e = (refl, unless_none (not (leb d 100)) TooDeep (takes (opened d ∷ []) (at n true)) e)
open_step n true d e = let z : ◌≡◌ {A = ℕ} 0 1 = cc in absurd (omega arith)

pub text_step : (n : ℕ) (i : Bool) (b : ℕ) → own_answer (store_step n i (texts b)) ≡ Ok tt → (i ≡ true) × (store_step n i (texts b) ≡ takes (text b ∷ []) (at n i))
text_step n true b e = (refl, unless_none (barred b) BarredByte (takes (text b ∷ []) (at n true)) e)
text_step n false b e = let z : ◌≡◌ {A = ℕ} 0 1 = cc in absurd (omega arith)

pub end_step : (n : ℕ) (i : Bool) (k : ℕ) → own_answer (store_step n i (ends k)) ≡ Ok tt → (i ≡ true) × (store_step n i (ends k) ≡ takes (ended ∷ []) (at (n + 1) false))
end_step n true k e = (refl, unless_none (not (eqb k (n + 1))) WrongNumber (takes (ended ∷ []) (at (n + 1) false)) e)
end_step n false k e = let z : ◌≡◌ {A = ℕ} 0 1 = cc in absurd (omega arith)

pub finish_step : (n : ℕ) (i : Bool) → own_answer (store_step n i finishes) ≡ Ok tt → (i ≡ false) × (store_step n i finishes ≡ takes [] (at n i))
finish_step n false e = (refl, refl)
finish_step n true e = let z : ◌≡◌ {A = ℕ} 0 1 = cc in absurd (omega arith)

ready_not : (s t : Pages) → s ≡ t → (not s.inside && eqb s.count 0) ≡ false → (not t.inside && eqb t.count 0) ≡ false
ready_not s t e h = subst (λ (x : Pages). (not x.inside && eqb x.count 0) ≡ false) e h

stirring : (n : ℕ) (i : Bool) (o : Order) (es : List Event) (t : Pages) → closes o ≡ false → store_step n i o ≡ takes es t → (not t.inside && eqb t.count 0) ≡ false
stirring n true (opens d) es t c e = let z : ◌≡◌ {A = ℕ} 0 1 = cc in absurd (omega arith)
stirring n true (texts b) es t c e = let q = unless_takes (barred b) BarredByte _ es t e in let w : at n true ≡ t = cc in ready_not (at n true) t w refl
stirring n true (ends k) es t c e = let q = unless_takes (not (eqb k (n + 1))) WrongNumber _ es t e in let w : at (n + 1) false ≡ t = cc in ready_not (at (n + 1) false) t w (ne_eqb (n + 1) 0 (omega arith))
stirring n true (gives_up k) es t c e = let q = unless_takes (not (eqb k (n + 1))) WrongNumber _ es t e in let z : ◌≡◌ {A = ℕ} 0 1 = cc in absurd (omega arith)
stirring n true finishes es t c e = let z : ◌≡◌ {A = ℕ} 0 1 = cc in absurd (omega arith)
stirring n false (opens d) es t c e = let q = unless_takes (not (leb d 100)) TooDeep _ es t e in let w : at n true ≡ t = cc in ready_not (at n true) t w refl
stirring n false (texts b) es t c e = let z : ◌≡◌ {A = ℕ} 0 1 = cc in absurd (omega arith)
stirring n false (ends k) es t c e = let z : ◌≡◌ {A = ℕ} 0 1 = cc in absurd (omega arith)
stirring n false (gives_up k) es t c e = let z : ◌≡◌ {A = ℕ} 0 1 = cc in absurd (omega arith)
stirring n false finishes es t c e = let z : ◌≡◌ {A = ℕ} 0 1 = cc in absurd (omega arith)

stirs : Stirs store
stirs s o es t c e = stirring s.count s.inside o es t c e

-- the store took the order
pub record Took (a b : Store) (o : Order) : Type 0 where
  pub told : verdict (meant a) o ≡ None
  pub left : meant b ≡ after (meant a) o
  pub kept : Keeps a b

abbrev foot_of : Store → List Event
foot_of a = told_by (vec_items a.records) (vec_items a.bytes) a.count a.inside

abbrev pub permit_of : Store → Permit Event
permit_of a = store_permit (vec_items a.records) (vec_items a.bytes)

pub one_more : (bars : List Event → Event → Option Fault) (foot : List Event) (x : Event) → bars foot x ≡ None → fill bars foot (x ∷ []) ≡ record { list = foot ++ x ∷ []; fault = None }
one_more bars foot x e = ap (λ (v : Option Fault). filled v foot (record { list = foot ++ x ∷ []; fault = None })) e

-- at an order that puts one event on the foot, or none, and closes or not
module _ (a : Store) (o : Order) (run : a.phase ≡ Running) where
  pub took_by : (es : List Event) (t : Pages) → store_step a.count a.inside o ≡ takes es t → (l : List Event) → fill (permit_of a).bars (foot_of a) es ≡ record { list = l; fault = None } → (b : Store) → Keeps a b → meant b ≡ bottom_means store (permit_of a) l t (gone (closes o)) (place_on (counts o) (min a.used most)) → Took a b o
  took_by es t q l h b k w =
      let d = in_taken store (permit_of a) (foot_of a) (at a.count a.inside) own_fault a.phase (min a.used most) o run es t q stirs l h (never (closes o)) in
      record { told = d.tells; left = w ∙ d.leads; kept = k }
    where
      never : (c : Bool) → if_closing c None ≡ None
      never true = refl
      never false = refl

  -- no room is left for it
  pub full_by : (x : Event) (t : Pages) → store_step a.count a.inside o ≡ takes (x ∷ []) t → (permit_of a).bars (foot_of a) x ≡ Some (own Full Layered (min a.used most)) → (b : Store) (f : OwnFault) → Turned a b Full f → RefusedSo a b o f
  full_by x t q h b f u =
      let fault = own Full Layered (min a.used most) in
      shuts_so a b o Full f u refl (in_barred store (permit_of a) (foot_of a) (at a.count a.inside) own_fault a.phase (min a.used most) o run (x ∷ []) t q (foot_of a) fault (ap (λ (v : Option Fault). filled v (foot_of a) (record { list = foot_of a ++ x ∷ []; fault = None })) h) refl (at a.count a.inside))
