-- Phases and the faults that they mean.
use Rattle.std.proofs.Common.{◌≡◌, ℕ, Bool, true, false, cond, Ok, sym, refl, ap, ◌∙◌, arith}
use Rattle.fault.specs.declared.cause.Cause.{Cause}
use Rattle.fault.specs.declared.own_fault.OwnFault.{OwnFault}
use Rattle.fault.specs.Faults.{own, leaves}
use Rattle.fault.specs.Numbers.{layer_number}
use Rattle.fault.specs.Kinds.{own_fault}
use Rattle.fault.specs.declared.fault.Fault.{Fault}
use Rattle.fault.specs.declared.layer.Layer.{Layer}
use Rattle.fault.specs.Answers.{via, arisen}
use Rattle.orders.specs.declared.phase.Phase.{Phase}
use Rattle.orders.specs.declared.phase.Phase.TheVariants.{Running, Closed, Shut}
use Rattle.orders.specs.Phases.{phased, stands, running, refused, ShutIn}

-- the standing fault of what a phase means is what its standing fault means
pub via_stands : {F : Type 0} (f : F → Fault) (p : Phase F) → via f (stands p) ≡ stands (phased f p)
via_stands f Running = refl
via_stands f Closed = refl
via_stands f (Shut x) = refl

-- orders are still taken
pub runs : {F : Type 0} (l : Layer) (n : ℕ) (p : Phase F) → arisen l n (running p) ≡ Ok tt → p ≡ Running
runs l n Running e = refl
runs l n Closed e = let z : ◌≡◌ {A = ℕ} 0 1 = cc in absurd (omega arith)
runs l n (Shut x) e = let z : ◌≡◌ {A = ℕ} 0 1 = cc in absurd (omega arith)

-- a refusal of the layer's own leaves it so
pub refused_in : (l : Layer) (c : Cause) (n : ℕ) (f : OwnFault) (p : Phase OwnFault) → own_fault f ≡ own c l n → ShutIn l p → ShutIn l (refused c f p)
refused_in l c n f p e h = go (leaves c)
  where
    go : (x : Bool) → ShutIn l (cond x p (Shut f))
    go true = h
    go false = λ x q. let is : f ≡ x = cc in ap (λ (y : OwnFault). layer_number y.layer) (sym is) ∙ ap (λ (y : Fault). layer_number y.layer) e
