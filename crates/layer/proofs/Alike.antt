-- The same layer over sinks that match: they are alike.
use Rattle.std.proofs.Common.{◌≡◌, ℕ, suc, Bool, true, false, List, [], ◌∷◌, ◌++◌, Some, None, Option, sym, refl, ap, ◌∙◌}
use Rattle.orders.specs.declared.phase.Phase.{Phase}
use Rattle.orders.specs.declared.phase.Phase.TheVariants.{Running, Closed, Shut}
use Rattle.fault.specs.declared.fault.Fault.{Fault}
use Rattle.fault.specs.Answers.{raised}
use Rattle.orders.specs.Meaning.{up, Kind, Added, Adds, later_all}
use Rattle.orders.specs.Laws.{Sound}
use Rattle.orders.specs.Lists.{addition, then_added}
use Rattle.orders.specs.Steps.{place_on}
use Rattle.orders.specs.Permits.{Filled, fill}
use Rattle.sink.specs.Sink.{Sink, down, Order as Sunk}
use Rattle.orders.specs.Alike.{Alike}
use Rattle.orders.proofs.Adding.{addition_append}
use Rattle.std.proofs.lemmas.List.{append_cancel_left}
use Rattle.sink.specs.Same.{Matched}
use Rattle.layer.specs.Layer.{Machine, Move, sends, stops, moved, run, run_on, layer_adds, layer_means}
use Rattle.orders.proofs.Fills.{fill_up, up_none, same_fills}

abbrev pub AddingAlike : {O E : Type 0} → Adds O E → Adds O E → Type 0
AddingAlike {O} {E} a b = (os : List O) → addition a os ≡ addition b os

pub alike_later : {O E : Type 0} (a b : Adds O E) → AddingAlike a b → (p : List O) → (addition a p).fault ≡ None → AddingAlike (later_all p a) (later_all p b)
alike_later {O} {E} a b h p e os =
    let s : Added E = addition (later_all p a) os in
    let t : Added E = addition (later_all p b) os in
    let f : (addition b p).fault ≡ None = ap (λ (w : Added E). w.fault) (sym (h p)) ∙ e in
    let on : (g : Option Fault) → g ≡ None → (xs : List E) (r : Added E) → then_added g xs r ≡ then_added None xs r = λ g z xs r. ap (λ (v : Option Fault). then_added v xs r) z in
    let q : then_added None (addition a p).items s ≡ then_added None (addition b p).items t = sym (addition_append a p os ∙ on (addition a p).fault e (addition a p).items s) ∙ h (p ++ os) ∙ addition_append b p os ∙ on (addition b p).fault f (addition b p).items t in
    let l : s.items ≡ t.items = append_cancel_left (addition a p).items s.items t.items (ap (λ (w : Added E). w.items) q ∙ ap (λ (w : Added E). w.items ++ t.items) (sym (h p))) in
    let g : s.fault ≡ t.fault = ap (λ (w : Added E). w.fault) q in
    λ i. record { items = l i; fault = g i }

module _ {k : Kind} (a : Machine k) where
  abbrev Below : Type 0
  Below = Adds Sunk ℕ

  abbrev rest : Bool → Move a.St → ℕ → ℕ → Below → Adds k.Order ℕ
  rest c mv n n' g p q = run_on a mv c n n' g (λ x y z. run a x y z p) q

  abbrev Ih : List k.Order → Type 0
  Ih os = (n : ℕ) (s : a.St) (g h : Below) → AddingAlike g h → addition (run a n s g) os ≡ addition (run a n s h) os

  one_on : (n n' : ℕ) (g h : Below) → AddingAlike g h → (os : List k.Order) → Ih os → (c : Bool) (mv : Move a.St) → then_added (moved a mv c n g).fault (moved a mv c n g).items (addition (rest c mv n n' g) os) ≡ then_added (moved a mv c n h).fault (moved a mv c n h).items (addition (rest c mv n n' h) os)
  one_on n n' g h al os ih c (stops x) = refl
  one_on n n' g h al os ih true (sends bs t) = ap (λ (w : Added ℕ). then_added (raised w.fault) w.items (addition (rest true (sends bs t) n n' g) os)) (al (down bs true))
  one_on n n' g h al os ih false (sends bs t) = ap (λ (w : Added ℕ). then_added (raised w.fault) w.items rg) (al (down bs false)) ∙ inner y.fault refl
    where
      y : Added ℕ
      y = addition h (down bs false)

      rg : Added ℕ
      rg = addition (rest false (sends bs t) n n' g) os

      rh : Added ℕ
      rh = addition (rest false (sends bs t) n n' h) os

      inner : (v : Option Fault) → y.fault ≡ v → then_added (raised y.fault) y.items rg ≡ then_added (raised y.fault) y.items rh
      inner (Some f) q = ap (λ (v : Option Fault). then_added (raised v) y.items rg) q ∙ sym (ap (λ (v : Option Fault). then_added (raised v) y.items rh) q)
      inner None q = ap (then_added (raised y.fault) y.items) (ih n' t (later_all (down bs false) g) (later_all (down bs false) h) (alike_later g h al (down bs false) (ap (λ (w : Added ℕ). w.fault) (al (down bs false)) ∙ q)))

  pub run_alike : (os : List k.Order) → Ih os
  run_alike [] n s g h al = refl
  run_alike (o ∷ os) n s g h al = one_on n (place_on (k.counts o) n) g h al os (run_alike os) (k.closes o) (a.move s o)

  phase_alike : (ph : Phase Fault) (n : ℕ) (s : a.St) (g h : Below) → AddingAlike g h → AddingAlike (layer_adds a ph n s g) (layer_adds a ph n s h)
  phase_alike Running n s g h al os = run_alike os n s g h al
  phase_alike Closed n s g h al os = refl
  phase_alike (Shut f) n s g h al os = refl

  -- a layer over matched sinks, in the same state
  pub layer_alike : (m l : Sink) → Sound m → Sound l → Matched m l → (s : a.St) (ph : Phase Fault) (n : ℕ) → Alike (layer_means a m s ph n) (layer_means a l s ph n)
  layer_alike m l sm sl h s ph n = record {
    foot = em ∙ sym el;
    adds = phase_alike ph n s m.adds l.adds h.stages.add;
    says = λ os o. refl;
    permits = λ xs. at_m xs ∙ (λ i. record { list = (w xs i).list; fault = up (suc (h.stages.many i)) (w xs i).fault }) ∙ sym (at_l xs);
    closable = λ xs e. (λ i. up (suc (h.stages.many i)) (ends xs e i));
    place = refl;
    layer = refl;
    standing = refl;
  }
    where
      em : m.foot ≡ []
      em = sm.empty h.one

      el : l.foot ≡ []
      el = sl.empty h.other

      w : (xs : List ℕ) → fill m.fixed.end.bars [] xs ≡ fill l.fixed.end.bars [] xs
      w xs = same_fills m.fixed.end.bars l.fixed.end.bars [] h.permit.permitted xs

      at_m : (xs : List ℕ) → fill (λ p x. up (suc m.fixed.above) (m.fixed.end.bars p x)) m.foot xs ≡ record { list = (fill m.fixed.end.bars [] xs).list; fault = up (suc m.fixed.above) (fill m.fixed.end.bars [] xs).fault }
      at_m xs = ap (λ (f : List ℕ). fill (λ p x. up (suc m.fixed.above) (m.fixed.end.bars p x)) f xs) em ∙ fill_up (suc m.fixed.above) m.fixed.end.bars [] xs

      at_l : (xs : List ℕ) → fill (λ p x. up (suc l.fixed.above) (l.fixed.end.bars p x)) l.foot xs ≡ record { list = (fill l.fixed.end.bars [] xs).list; fault = up (suc l.fixed.above) (fill l.fixed.end.bars [] xs).fault }
      at_l xs = ap (λ (f : List ℕ). fill (λ p x. up (suc l.fixed.above) (l.fixed.end.bars p x)) f xs) el ∙ fill_up (suc l.fixed.above) l.fixed.end.bars [] xs

      ends : (xs : List ℕ) → (fill (λ p x. up (suc m.fixed.above) (m.fixed.end.bars p x)) m.foot xs).fault ≡ None → m.fixed.end.ending (m.foot ++ xs) ≡ l.fixed.end.ending (l.foot ++ xs)
      ends xs e =
          ap (λ (f : List ℕ). m.fixed.end.ending (f ++ xs)) em
          ∙ h.permit.closable xs (up_none (suc m.fixed.above) (fill m.fixed.end.bars [] xs).fault (ap (λ (x : Filled ℕ). x.fault) (sym (at_m xs)) ∙ e))
          ∙ ap (λ (f : List ℕ). l.fixed.end.ending (f ++ xs)) (sym el)
