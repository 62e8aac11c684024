-- Orders handed on one by one come to what their addition comes to as a whole.
use Rattle.std.proofs.Common.{◌≡◌, Bool, true, false, cond, List, [], ◌∷◌, Some, None, Option, sym, refl, ap, ◌∙◌, append-nil}
use Rattle.fault.specs.declared.fault.Fault.{Fault}
use Rattle.fault.specs.Answers.{or_else}
use Rattle.orders.specs.Meaning.{Kind, Added, Meaning, bars, ending, later, later_all}
use Rattle.orders.specs.Permits.{Filled, fill, Bars}
use Rattle.orders.specs.Steps.{finished, if_closing, reached, mild, stays, shuts, settled, adds_on, after, verdict}
use Rattle.orders.specs.Lists.{then_added, addition, sent, sent_on, sent_fault, ran, reach}
use Rattle.orders.proofs.Fills.{cont, fill_append, both_none}

-- orders of which none closes but perhaps the last
pub data Going (k : Kind) : List k.Order → Bool → Type 0 where
  none : Going k [] false
  closing : {o : k.Order} → k.closes o ≡ true → Going k (o ∷ []) true
  going : {o : k.Order} {os : List k.Order} {c : Bool} → k.closes o ≡ false → Going k os c → Going k (o ∷ os) c

pub settled_foot : {k : Kind} {E : Type 0} (m : Meaning k E) (o : k.Order) (v : Option Fault) (l : List E) → (settled m o v l).foot ≡ l
settled_foot m o None l = refl
settled_foot {k} {E} m o (Some f) l = go (mild f)
  where
    go : (b : Bool) → (cond b (stays m l) (shuts m f l)).foot ≡ l
    go true = refl
    go false = refl

pub settled_fixed : {k : Kind} {E : Type 0} (m : Meaning k E) (o : k.Order) (v : Option Fault) (l : List E) → (settled m o v l).fixed ≡ m.fixed
settled_fixed m o None l = refl
settled_fixed {k} {E} m o (Some f) l = go (mild f)
  where
    go : (b : Bool) → (cond b (stays m l) (shuts m f l)).fixed ≡ m.fixed
    go true = refl
    go false = refl

abbrev by_parts : {E : Type 0} → Option Fault → Option Fault → Bars E → List E → List E → Filled E
by_parts (Some f) wf bars l ys = record { list = l; fault = wf }
by_parts None wf bars l ys = cont wf bars l ys

split : {E : Type 0} (af : Option Fault) (bars : Bars E) (foot xs : List E) (r : Added E) → fill bars foot (then_added af xs r).items ≡ by_parts af (fill bars foot xs).fault bars (fill bars foot xs).list r.items
split (Some f) bars foot xs r = refl
split None bars foot xs r = fill_append bars foot xs r.items

closed_at : {E : Type 0} (bars : Bars E) (ending : List E → Option Fault) (foot : List E) (a : Added E) → finished ending true (then_added a.fault a.items (record { items = []; fault = None })).fault (fill bars foot (then_added a.fault a.items (record { items = []; fault = None })).items) ≡ finished ending true a.fault (fill bars foot a.items)
closed_at {E} bars ending foot a = go a.fault
  where
    go : (af : Option Fault) → finished ending true (then_added af a.items (record { items = []; fault = None })).fault (fill bars foot (then_added af a.items (record { items = []; fault = None })).items) ≡ finished ending true af (fill bars foot a.items)
    go (Some f) = refl
    go None = ap (λ (xs : List E). finished ending true None (fill bars foot xs)) (append-nil a.items)

module _ {k : Kind} {E : Type 0} where
  abbrev ran_on : Meaning k E → k.Order → List k.Order → Option Fault → List E → Filled E
  ran_on m o os v l = record {
    list = (sent_on v (settled m o v l) (sent (settled m o v l) os)).foot;
    fault = or_else v (sent_fault (settled m o v l) os);
  }

  stopped : (m : Meaning k E) (o : k.Order) (os : List k.Order) (f : Fault) (l : List E) → ran_on m o os (Some f) l ≡ record { list = l; fault = Some f }
  stopped m o os f l = ap (λ (x : List E). record { list = x; fault = Some f }) (settled_foot m o (Some f) l)

  abbrev rest : Meaning k E → k.Order → List k.Order → Added E
  rest m o os = addition (later o m.adds) os

  one : (m : Meaning k E) (o : k.Order) (os : List k.Order) (c : Bool) (xs : List E) (af wf : Option Fault) (l : List E) → ran (settled m o None l) os ≡ finished (ending m.fixed) c (rest m o os).fault (fill (bars m.fixed) l (rest m o os).items) → ran_on m o os (or_else wf (or_else af None)) l ≡ finished (ending m.fixed) c (then_added af xs (rest m o os)).fault (by_parts af wf (bars m.fixed) l (rest m o os).items)
  one m o os c xs (Some f) (Some g) l ih = stopped m o os g l
  one m o os c xs (Some f) None l ih = stopped m o os f l
  one m o os c xs None (Some g) l ih = stopped m o os g l
  one m o os c xs None None l ih = ih

  only : (m : Meaning k E) (o : k.Order) (v : Option Fault) (l : List E) → ran_on m o [] v l ≡ record { list = l; fault = v }
  only m o (Some f) l = stopped m o [] f l
  only m o None l = refl

  pub ran_reach : (m : Meaning k E) (os : List k.Order) (c : Bool) → Going k os c → ran m os ≡ reach m os c
  unfolding after verdict
  ran_reach m [] false none = refl
  ran_reach m [] true x = elim x [ ]
  ran_reach m (o ∷ []) true (closing e) =
      let a = m.adds [] o in
      only m o (reached m o).fault (reached m o).list
      ∙ ap (λ (z : Bool). finished (ending m.fixed) z a.fault (fill (bars m.fixed) m.foot a.items)) e
      ∙ sym (closed_at (bars m.fixed) (ending m.fixed) m.foot a)
  ran_reach m (o ∷ os) c (going e h) =
      let a = m.adds [] o in
      let w = fill (bars m.fixed) m.foot a.items in
      ap (λ (z : Bool). ran_on m o os (or_else w.fault (or_else a.fault (if_closing z (ending m.fixed w.list)))) w.list) e
      ∙ one m o os c a.items a.fault w.fault w.list (ran_reach (settled m o None w.list) os c h ∙ ap (λ (z : Bool). let r = addition (adds_on z o m) os in finished (ending m.fixed) c r.fault (fill (bars m.fixed) w.list r.items)) e)
      ∙ ap (finished (ending m.fixed) c (then_added a.fault a.items (rest m o os)).fault) (sym (split a.fault (bars m.fixed) m.foot a.items (rest m o os)))

  -- no order changes what is fixed
  pub sent_fixed : (m : Meaning k E) (os : List k.Order) → (sent m os).fixed ≡ m.fixed
  unfolding after verdict
  sent_fixed m [] = refl
  sent_fixed m (o ∷ os) = go (verdict m o) (sent_fixed (after m o) os ∙ one_fixed)
    where
      one_fixed : (after m o).fixed ≡ m.fixed
      one_fixed = settled_fixed m o (reached m o).fault (reached m o).list

      go : (v : Option Fault) → (sent (after m o) os).fixed ≡ m.fixed → (sent_on v (after m o) (sent (after m o) os)).fixed ≡ m.fixed
      go (Some f) ih = one_fixed
      go None ih = ih

  -- after accepted orders none of which closes, later ones add what they would have added after them
  pub went : (m : Meaning k E) (os : List k.Order) → Going k os false → sent_fault m os ≡ None → (sent m os).adds ≡ later_all os m.adds
  unfolding after verdict
  went m [] none e = refl
  went m (o ∷ os) (going c w) e =
      let h = both_none (verdict m o) (sent_fault (after m o) os) e in
      ap (λ v. (sent_on v (after m o) (sent (after m o) os)).adds) h.0
      ∙ went (after m o) os w h.1
      ∙ ap (λ v. later_all os (settled m o v (reached m o).list).adds) h.0
      ∙ ap (λ (z : Bool). later_all os (adds_on z o m)) c

  -- and the taker is fresh no more
  stale : (m : Meaning k E) (os : List k.Order) → m.fresh ≡ false → sent_fault m os ≡ None → (sent m os).fresh ≡ false
  unfolding after verdict
  stale m [] f e = f
  stale m (o ∷ os) f e =
      let h = both_none (verdict m o) (sent_fault (after m o) os) e in
      ap (λ v. (sent_on v (after m o) (sent (after m o) os)).fresh) h.0 ∙ stale (after m o) os (ap (λ v. (settled m o v (reached m o).list).fresh) h.0) h.1

  pub staled : (m : Meaning k E) (o : k.Order) (os : List k.Order) → sent_fault m (o ∷ os) ≡ None → (sent m (o ∷ os)).fresh ≡ false
  unfolding after verdict
  staled m o os e =
      let h = both_none (verdict m o) (sent_fault (after m o) os) e in
      ap (λ v. (sent_on v (after m o) (sent (after m o) os)).fresh) h.0 ∙ stale (after m o) os (ap (λ v. (settled m o v (reached m o).list).fresh) h.0) h.1
