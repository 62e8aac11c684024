-- A stage keeps the law of sinks, if its undoing gives back what it was sent.
use Rattle.std.proofs.Common.{◌≡◌, ℕ, true, List, length, Some, None, sym, ap, subst, arith}
use Rattle.fault.specs.declared.fault.Fault.{Fault}
use Rattle.orders.specs.declared.phase.Phase.{Phase}
use Rattle.orders.specs.declared.phase.Phase.TheVariants.{Running, Closed, Shut}
use Rattle.orders.specs.Meaning.{Added, bars, ending}
use Rattle.orders.specs.Lists.{addition}
use Rattle.orders.proofs.Fills.{raised_none, permitted_below}
use Rattle.undo.specs.Undoing.{Undoing, undone, piped, whole}
use Rattle.undo.proofs.Compose.{Back, back, back_whole, composed}
use Rattle.sink.specs.Sink.{Sink, bytes, down}
use Rattle.sink.specs.Law.{Accepts, Lawful}
use Rattle.sink.proofs.Going.{down_going}
use Rattle.layer.specs.Layer.{Machine, layer_means, layer_fresh, lifted}
use Rattle.layer.specs.Wire.{wire}
use Rattle.layer.proofs.Sound.{layer_sound, both_true}
use Rattle.layer.proofs.Wiring.{wire_adds, added_wire}

-- v gives back what a stage sends down from a line beginning, and its place is behind the undoing of what stands below
pub record Undoes (a : Machine bytes) (v : Undoing) : Type 0 where
  pub over : (u : Undoing) → a.over u ≡ piped u v
  pub gives : (s : a.St) → a.ready s ≡ true → (bs cs : List ℕ) → wire a s (down bs true) ≡ Some cs → Back (undone v cs) bs cs

module _ (a : Machine bytes) (v : Undoing) (h : Undoes a v) (m : Sink) (s : a.St) (n : ℕ) (l : Lawful m) where
  gives_back : (ph : Phase Fault) → layer_fresh a ph s m.fresh ≡ true → (bs foot : List ℕ) → Accepts (layer_means a m s ph n) bs foot → undone (a.over m.fixed.also) foot ≡ whole bs (length foot)
  gives_back Running fr bs foot acc =
      let f = both_true m.fresh (a.ready s) fr in
      let w = added_wire a (down bs true) true (down_going bs true) n s m.adds (ap (λ (x : Added ℕ). x.fault) acc.added) in
      let cs = w.0 in
      let e : lifted (addition m.adds (down cs true)) ≡ record { items = foot; fault = None } = subst (λ (x : Added ℕ). x ≡ record { items = foot; fault = None }) (wire_adds a (down bs true) true (down_going bs true) n s m.adds cs w.1) acc.added in
      let below : Accepts m cs foot = record {
        added = λ i. record { items = (e i).items; fault = raised_none (addition m.adds (down cs true)).fault (ap (λ (x : Added ℕ). x.fault) e) i };
        permitted = permitted_below (bars m.fixed) foot acc.permitted;
        closable = raised_none (ending m.fixed foot) acc.closable;
      } in
      let first = back (undone m.fixed.also foot) cs foot (l.back f.0 cs foot below) in
      let both = composed m.fixed.also v foot cs bs first (h.gives s f.1 bs cs w.1) in
      subst (λ (u : Undoing). undone u foot ≡ whole bs (length foot)) (sym (h.over m.fixed.also)) (back_whole _ bs foot both)
  gives_back Closed fr bs foot acc = let z : ◌≡◌ {A = ℕ} 0 1 = cc in absurd (omega arith)
  gives_back (Shut f) fr bs foot acc = let z : ◌≡◌ {A = ℕ} 0 1 = cc in absurd (omega arith)

  pub stage_lawful : (ph : Phase Fault) → Lawful (layer_means a m s ph n)
  stage_lawful ph = record { sound = layer_sound a m s n l.sound ph; back = gives_back ph }
