-- A layer over a sound sink is sound.
use Rattle.std.proofs.Common.{◌≡◌, ℕ, Bool, true, false, List, [], ◌∷◌, None, refl, arith}
use Rattle.fault.specs.declared.fault.Fault.{Fault}
use Rattle.fault.specs.declared.cause.Cause.TheVariants.{AfterClose}
use Rattle.fault.specs.Faults.{own}
use Rattle.orders.specs.declared.phase.Phase.{Phase}
use Rattle.orders.specs.declared.phase.Phase.TheVariants.{Running, Closed, Shut}
use Rattle.orders.specs.Meaning.{Kind, refuses}
use Rattle.orders.specs.Steps.{place_on}
use Rattle.orders.specs.Laws.{Sound}
use Rattle.sink.specs.Sink.{Sink}
use Rattle.layer.specs.Layer.{Machine, Move, sends, stops, moved, run, run_on, layer_adds, layer_means, layer_fresh, both}

pub both_true : (a b : Bool) → both a b ≡ true → (a ≡ true) × (b ≡ true)
both_true true b e = (refl, e)
both_true false b e = let z : ◌≡◌ {A = ℕ} 0 1 = cc in absurd (omega arith)

module _ {k : Kind} (a : Machine k) (m : Sink) (s : a.St) (n : ℕ) (h : Sound m) where
  empty : (ph : Phase Fault) → layer_fresh a ph s m.fresh ≡ true → m.foot ≡ []
  empty Running e = h.empty (both_true m.fresh (a.ready s) e).0
  empty Closed e = let z : ◌≡◌ {A = ℕ} 0 1 = cc in absurd (omega arith)
  empty (Shut f) e = let z : ◌≡◌ {A = ℕ} 0 1 = cc in absurd (omega arith)

  over_on : (mv : Move a.St) (c : Bool) (o q : k.Order) (p : List k.Order) → c ≡ true → (moved a mv c n m.adds).fault ≡ None → run_on a mv c n (place_on (k.counts o) n) m.adds (λ n' s' g'. run a n' s' g' p) q ≡ refuses (own AfterClose a.layer (place_on (k.counts o) n)) p q
  over_on (sends bs t) true o q p c e = refl
  over_on (sends bs t) false o q p c e = let z : ◌≡◌ {A = ℕ} 0 1 = cc in absurd (omega arith)
  over_on (stops x) y o q p c e = let z : ◌≡◌ {A = ℕ} 0 1 = cc in absurd (omega arith)

  over : (ph : Phase Fault) (o : k.Order) → k.closes o ≡ true → (layer_adds a ph n s m.adds [] o).fault ≡ None → (p : List k.Order) (q : k.Order) → layer_adds a ph n s m.adds (o ∷ p) q ≡ refuses (own AfterClose a.layer (place_on (k.counts o) n)) p q
  over Running o c e p q = over_on (a.move s o) (k.closes o) o q p c e
  over Closed o c e p q = let z : ◌≡◌ {A = ℕ} 0 1 = cc in absurd (omega arith)
  over (Shut f) o c e p q = let z : ◌≡◌ {A = ℕ} 0 1 = cc in absurd (omega arith)

  pub layer_sound : (ph : Phase Fault) → Sound (layer_means a m s ph n)
  layer_sound ph = record { empty = empty ph; within = h.within; hard = h.hard; over = over ph }
