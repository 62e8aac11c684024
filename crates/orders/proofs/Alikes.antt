-- Two takers that add, permit and answer alike do so after every order.
use Rattle.std.proofs.Common.{◌≡◌, Bool, true, false, cond, List, [], ◌∷◌, ◌++◌, Some, None, Option, sym, refl, ap, ◌∙◌, subst, append_assoc, append-nil}
use Rattle.std.proofs.lemmas.List.{append_cancel_left}
use Rattle.fault.specs.declared.fault.Fault.{Fault}
use Rattle.fault.specs.declared.cause.Cause.TheVariants.{AfterClose, AfterShut}
use Rattle.fault.specs.Faults.{own}
use Rattle.fault.specs.Answers.{or_else, answer}
use Rattle.orders.specs.Alike.{Alike}
use Rattle.orders.specs.Meaning.{Kind, Added, Meaning, bars, ending, later, refuses}
use Rattle.orders.specs.Permits.{Filled, fill, Bars}
use Rattle.orders.specs.Steps.{if_closing, reached, mild, stays, shuts, settled, after, verdict, value, answered, adds_on, says_on, place_on, shown}
use Rattle.orders.specs.Lists.{then_added, addition}
use Rattle.orders.proofs.Fills.{cont, fill_append, Prefix, fill_prefix, fill_whole, both_none}

alone : {E : Type 0} (v : Option Fault) (xs : List E) → then_added v xs (record { items = []; fault = None }) ≡ record { items = xs; fault = v }
alone (Some f) xs = refl
alone {E} None xs = ap (λ (l : List E). record { items = l; fault = None }) (append-nil xs)

module _ {k : Kind} {E : Type 0} (a b : Meaning k E) (h : Alike a b) (o : k.Order) where
  abbrev x : Added E
  x = a.adds [] o

  abbrev y : Added E
  y = b.adds [] o

  abbrev ba : Bars E
  ba = bars a.fixed

  abbrev bb : Bars E
  bb = bars b.fixed

  add_one : x ≡ y
  add_one = sym (alone x.fault x.items) ∙ h.adds (o ∷ []) ∙ alone y.fault y.items

  abbrev u : Filled E
  u = fill ba a.foot x.items

  abbrev v : Filled E
  v = fill bb b.foot y.items

  fills : u ≡ v
  fills = h.permits x.items ∙ ap (λ (w : Added E). fill bb b.foot w.items) add_one

  ends_alike : u.fault ≡ None → ending a.fixed u.list ≡ ending b.fixed v.list
  ends_alike e =
      ap (ending a.fixed) (fill_whole ba a.foot x.items e)
      ∙ h.closable x.items e
      ∙ ap (λ (w : Added E). ending b.fixed (b.foot ++ w.items)) add_one
      ∙ ap (ending b.fixed) (sym (fill_whole bb b.foot y.items (ap (λ (w : Filled E). w.fault) (sym fills) ∙ e)))

  pub same_reached : reached a o ≡ reached b o
  same_reached = go u.fault refl
    where
      l : u.list ≡ v.list
      l = ap (λ (w : Filled E). w.list) fills

      f : u.fault ≡ v.fault
      f = ap (λ (w : Filled E). w.fault) fills

      r : x.fault ≡ y.fault
      r = ap (λ (w : Added E). w.fault) add_one

      go : (w : Option Fault) → u.fault ≡ w → reached a o ≡ reached b o
      go (Some g) e = λ i. record { list = l i; fault = (ap (λ (q : Option Fault). or_else q (or_else x.fault (if_closing (k.closes o) (ending a.fixed u.list)))) e ∙ sym (ap (λ (q : Option Fault). or_else q (or_else y.fault (if_closing (k.closes o) (ending b.fixed v.list)))) (sym f ∙ e))) i }
      go None e = λ i. record { list = l i; fault = or_else (f i) (or_else (r i) (if_closing (k.closes o) (ends_alike e i))) }

  pub same_verdict : verdict a o ≡ verdict b o
  unfolding verdict
  same_verdict = ap (λ (w : Filled E). w.fault) same_reached

  p : Prefix ba a.foot u.list
  p = fill_prefix ba a.foot x.items

  a_on : (ys : List E) → fill ba a.foot (p.pre ++ ys) ≡ fill ba u.list ys
  a_on ys = fill_append ba a.foot p.pre ys ∙ ap (λ (w : Filled E). cont w.fault ba w.list ys) p.ok

  b_on : (ys : List E) → fill bb b.foot (p.pre ++ ys) ≡ fill bb u.list ys
  b_on ys = fill_append bb b.foot p.pre ys ∙ ap (λ (w : Filled E). cont w.fault bb w.list ys) (sym (h.permits p.pre) ∙ p.ok)

  bars_on : (ys : List E) → fill ba u.list ys ≡ fill bb u.list ys
  bars_on ys = sym (a_on ys) ∙ h.permits (p.pre ++ ys) ∙ b_on ys

  ending_on : (ys : List E) → (fill ba u.list ys).fault ≡ None → ending a.fixed (u.list ++ ys) ≡ ending b.fixed (u.list ++ ys)
  ending_on ys e =
      let l : u.list ++ ys ≡ a.foot ++ (p.pre ++ ys) = ap (λ (z : List E). z ++ ys) p.is ∙ append_assoc a.foot p.pre ys in
      ap (ending a.fixed) l
      ∙ h.closable (p.pre ++ ys) (ap (λ (w : Filled E). w.fault) (a_on ys) ∙ e)
      ∙ ap (λ (z : List E). ending b.fixed (z ++ (p.pre ++ ys))) (sym h.foot)
      ∙ ap (ending b.fixed) (sym l)

  -- after the accepted order, later ones add alike
  later_alike : x.fault ≡ None → (os : List k.Order) → addition (later o a.adds) os ≡ addition (later o b.adds) os
  later_alike e os =
      let s : Added E = addition (later o a.adds) os in
      let t : Added E = addition (later o b.adds) os in
      let q : then_added None x.items s ≡ then_added None x.items t =
      ap (λ (w : Option Fault). then_added w x.items s) (sym e) ∙ h.adds (o ∷ os) ∙ ap (λ (w : Added E). then_added w.fault w.items t) (sym add_one) ∙ ap (λ (w : Option Fault). then_added w x.items t) e in
      let l : s.items ≡ t.items = append_cancel_left x.items s.items t.items (ap (λ (w : Added E). w.items) q) in
      let f : s.fault ≡ t.fault = ap (λ (w : Added E). w.fault) q in
      λ i. record { items = l i; fault = f i }

  adds_alike : (c : Bool) → x.fault ≡ None → (os : List k.Order) → addition (adds_on c o a) os ≡ addition (adds_on c o b) os
  adds_alike true e os = λ i. addition (refuses (own AfterClose (h.layer i) (place_on (k.counts o) (h.place i)))) os
  adds_alike false e os = later_alike e os

  says_alike : (c : Bool) (os : List k.Order) (q : k.Order) → says_on c o a os q ≡ says_on c o b os q
  says_alike true os q = refl
  says_alike false os q = h.says (o ∷ os) q

  abbrev settled_alike : Option Fault → Type 0
  settled_alike w = Alike (settled a o w u.list) (settled b o w u.list)

  refused_alike : (f : Fault) (m : Bool) → Alike (cond m (stays a u.list) (shuts a f u.list)) (cond m (stays b u.list) (shuts b f u.list))
  refused_alike f true = record { foot = refl; adds = h.adds; says = h.says; permits = bars_on; closable = ending_on; place = h.place; layer = h.layer; standing = h.standing }
  refused_alike f false = record { foot = refl; adds = λ os i. addition (refuses (own AfterShut (h.layer i) (h.place i))) os; says = λ os q. refl; permits = bars_on; closable = ending_on; place = h.place; layer = h.layer; standing = refl }

  settle : (w : Option Fault) → (w ≡ None → x.fault ≡ None) → settled_alike w
  settle None e = record { foot = refl; adds = adds_alike (k.closes o) (e refl); says = says_alike (k.closes o); permits = bars_on; closable = ending_on; place = ap (place_on (k.counts o)) h.place; layer = h.layer; standing = h.standing }
  settle (Some f) e = refused_alike f (mild f)

  pub alike_after : Alike (after a o) (after b o)
  unfolding after
  alike_after =
      let c = if_closing (k.closes o) (ending a.fixed u.list) in
      let d : settled_alike (reached a o).fault = settle (reached a o).fault (λ e. (both_none x.fault c (both_none u.fault (or_else x.fault c) e).1).0) in
      subst (λ (w : Filled E). Alike (after a o) (settled b o w.fault w.list)) same_reached d

  pub same_value : value a o ≡ value b o
  same_value = λ i. cond (k.closes o) (shown (alike_after.foot i)) (h.says [] o i)

  pub same_answer : answered a o ≡ answered b o
  same_answer = λ i. answer (same_value i) (same_verdict i)
