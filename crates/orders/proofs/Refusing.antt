-- A refusal of the layer's own.
use Rattle.std.proofs.Common.{◌≡◌, Bool, true, false, cond, [], Some, sym, ap, ◌∙◌}
use Rattle.fault.specs.declared.fault.Fault.{Fault}
use Rattle.orders.specs.Meaning.{Kind, Added, Meaning, bars, ending}
use Rattle.orders.specs.Permits.{Filled, fill}
use Rattle.orders.specs.Steps.{finished, reached, mild, settled, stays, shuts, after, verdict}

module _ {k : Kind} {E : Type 0} (m : Meaning k E) (o : k.Order) (f : Fault) (e : m.adds [] o ≡ record { items = []; fault = Some f }) where
  refused_reached : reached m o ≡ record { list = m.foot; fault = Some f }
  refused_reached = ap (λ (a : Added E). finished (ending m.fixed) (k.closes o) a.fault (fill (bars m.fixed) m.foot a.items)) e

  pub refused : verdict m o ≡ Some f
  unfolding verdict
  refused = ap (λ (w : Filled E). w.fault) refused_reached

  to : after m o ≡ cond (mild f) (stays m m.foot) (shuts m f m.foot)
  unfolding after
  to = ap (λ (w : Filled E). settled m o w.fault w.list) refused_reached

  pub refused_stays : mild f ≡ true → m ≡ after m o
  refused_stays h = sym (to ∙ ap (λ (b : Bool). cond b (stays m m.foot) (shuts m f m.foot)) h)

  pub refused_shuts : mild f ≡ false → shuts m f m.foot ≡ after m o
  refused_shuts h = sym (to ∙ ap (λ (b : Bool). cond b (stays m m.foot) (shuts m f m.foot)) h)
