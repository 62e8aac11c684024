-- What the composer means.
use Rattle.std.specs.Prelude.{◌≡◌, ℕ, Bool, true, false, ◌&&◌, Ok, Err, Result, IsErrAnd, nat_le}
use Rattle.fault.specs.declared.fault.Fault.{Fault}
use Rattle.fault.specs.declared.cause.Cause.{Cause}
use Rattle.fault.specs.declared.cause.Cause.TheVariants.{BadStart}
use Rattle.fault.specs.declared.layer_fault.LayerFault.{LayerFault}
use Rattle.fault.specs.declared.layer.Layer.TheVariants.{Composer as composer_layer}
use Rattle.fault.specs.Faults.{own}
use Rattle.fault.specs.Kinds.{layer_fault}
use Rattle.orders.specs.declared.phase.Phase.{Phase}
use Rattle.orders.specs.declared.phase.Phase.TheVariants.{Running, Shut}
use Rattle.orders.specs.Phases.{phased}
pub use Rattle.orders.specs.Phases.{refused as refused_phase, settled as answered_phase}
use Rattle.sink.specs.Sink.{Sink}
use Rattle.taker.specs.Paragraph.{Taker}
use Rattle.layer.specs.Layer.{layer_means}
use Rattle.composer.specs.declared.composer.Composer.{Composer}
use Rattle.composer.specs.Machine.{Composing, composer, start}
use Rattle.composer.specs.Paragraphs.{within_of}

abbrev pub state_of : {S : Type 0} → Composer S → Composing
state_of c = record { width = c.paragraph.held.margins.width; opened = c.opened; paragraph = within_of c.paragraph }

-- over what the sink below means
abbrev pub means_of : {S : Type 0} → (S → Sink) → Composer S → Taker ℕ
means_of below c = layer_means composer (below c.below) (state_of c) (phased layer_fault c.phase) c.place

-- a width from 20 to 998, over a fresh sink
abbrev pub good_start : ℕ → Bool → Bool
good_start w fresh = nat_le 20 w && nat_le w 998 && fresh

-- and otherwise the composer is born shut
abbrev pub born : Bool → Phase Fault
born true = Running
born false = Shut (own BadStart composer_layer 0)

abbrev pub new_means : ℕ → Sink → Taker ℕ
new_means w m = layer_means composer m (start w) (born (good_start w m.fresh)) 0

-- so an order is refused, for a cause
pub record Refuses {S : Type 0} (c d : Composer S) (x : Cause) (f : LayerFault) : Type 0 where
  pub fault : layer_fault f ≡ own x composer_layer c.place
  pub left : d ≡ record { below = c.below; opened = c.opened; paragraph = c.paragraph; phase = refused_phase x f c.phase; place = c.place }

-- an order that may be taken finds the composer as it is, and another is refused
abbrev pub Checks : {S : Type 0} → Composer S → Composer S → Result (Unit {0}) Cause → Result (Unit {0}) LayerFault → Type 0
Checks c d (Ok x) r = (r ≡ Ok tt) × (d ≡ c)
Checks c d (Err x) r = IsErrAnd r (λ f. Refuses c d x f)
