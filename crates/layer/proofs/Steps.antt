-- What a layer's orders do, by what those that it sends down do below.
use Rattle.std.proofs.Common.{◌≡◌, ℕ, ◌+◌, min, Bool, true, false, cond, List, [], ◌∷◌, Some, None, Option, sym, refl, ap, ◌∙◌, arith, ne_eqb}
use Rattle.orders.specs.declared.phase.Phase.TheVariants.{Running, Closed, Shut}
use Rattle.fault.specs.declared.fault.Fault.{Fault}
use Rattle.fault.specs.declared.cause.Cause.{Cause}
use Rattle.fault.specs.declared.cause.Cause.TheVariants.{AfterClose, AfterShut}
use Rattle.fault.specs.Faults.{leaves}
use Rattle.fault.specs.Answers.{or_else, raised}
use Rattle.fault.specs.Faults.{own, raise, most}
use Rattle.orders.specs.Meaning.{Kind, Added, Fixed, Meaning, bars, ending, refuses, silent}
use Rattle.orders.specs.Permits.{Filled, fill, lift}
use Rattle.orders.specs.Steps.{finished, adds_on, reached, settled, shuts, stays, after, verdict, mild, says_on, place_on}
use Rattle.orders.specs.Lists.{addition, sent, sent_fault, ran}
use Rattle.sink.specs.Sink.{Order, put, Sink, bytes, down}
use Rattle.layer.specs.Layer.{Machine, Move, sends, stops, state_on, state_after, moved, run, run_on, both, Stirs, layer_means, layer_fixed, layer_adds, layer_says, layer_fresh}
use Rattle.orders.specs.Phases.{gone, stands}
use Rattle.orders.proofs.Fills.{fill_raised}
use Rattle.orders.proofs.Refusing.{refused, refused_stays, refused_shuts}
use Rattle.sink.proofs.Going.{down_going}
use Rattle.orders.proofs.Sending.{settled_foot, ran_reach, sent_fixed, went, staled}

first_raised : (x y z : Option Fault) → or_else (raised x) (or_else (raised y) (raised z)) ≡ raised (or_else x (or_else y z))
first_raised (Some f) y z = refl
first_raised None (Some f) z = refl
first_raised None None z = refl

finished_raised : {E : Type 0} (ending : List E → Option Fault) (c : Bool) (af : Option Fault) (w : Filled E) → finished (λ p. raised (ending p)) c (raised af) (lift w) ≡ lift (finished ending c af w)
finished_raised ending false af w = ap (λ (f : Option Fault). record { list = w.list; fault = f }) (first_raised w.fault af None)
finished_raised ending true af w = ap (λ (f : Option Fault). record { list = w.list; fault = f }) (first_raised w.fault af (ending w.list))

-- a fault from below is not the layer's own
pub mild_raise : (f : Fault) → mild (raise f) ≡ false
mild_raise f = rw (ne_eqb (min (f.level + 1) most) 0 (omega arith)) refl

both_false : (a : Bool) → both a false ≡ false
both_false true = refl
both_false false = refl

module _ {k : Kind} (a : Machine k) (m : Sink) (s : a.St) (n : ℕ) (o : k.Order) (bs : List ℕ) (s' : a.St) (e : a.move s o ≡ sends bs s') where
  abbrev here : Meaning k ℕ
  here = layer_means a m s Running n

  abbrev orders : List Order
  orders = down bs (k.closes o)

  abbrev plus : Added ℕ
  plus = addition m.adds orders

  pub layer_reached : reached here o ≡ lift (ran m orders)
  layer_reached =
      ap (λ (mv : Move a.St). finished (λ p. raised (ending m.fixed p)) (k.closes o) (moved a mv (k.closes o) n m.adds).fault (fill (λ p b. raised (bars m.fixed p b)) m.foot (moved a mv (k.closes o) n m.adds).items)) e
      ∙ ap (finished (λ p. raised (ending m.fixed p)) (k.closes o) (raised plus.fault)) (fill_raised (bars m.fixed) m.foot plus.items)
      ∙ finished_raised (ending m.fixed) (k.closes o) plus.fault (fill (bars m.fixed) m.foot plus.items)
      ∙ ap lift (sym (ran_reach m orders (k.closes o) (down_going bs (k.closes o))))

  -- the fault is that of what was sent down, one level higher
  pub layer_verdict : verdict here o ≡ raised (sent_fault m orders)
  unfolding verdict
  layer_verdict = ap (λ (w : Filled ℕ). w.fault) layer_reached

  layer_to : (v : Option Fault) → sent_fault m orders ≡ v → after here o ≡ settled here o (raised v) (sent m orders).foot
  unfolding after
  layer_to v h = ap (λ (w : Filled ℕ). settled here o w.fault w.list) layer_reached ∙ ap (λ (x : Option Fault). settled here o (raised x) (sent m orders).foot) h

  -- the foot is that of what stands below
  pub layer_foot : (after here o).foot ≡ (sent m orders).foot
  unfolding after
  layer_foot = settled_foot here o (reached here o).fault (reached here o).list ∙ ap (λ (w : Filled ℕ). w.list) layer_reached

  -- refused below: shut, in whatever state the layer was left
  pub layer_shut : (f : Fault) (u : a.St) → sent_fault m orders ≡ Some f → layer_means a (sent m orders) u (Shut (raise f)) n ≡ after here o
  layer_shut f u h =
      let foot = (sent m orders).foot in
      sym (
      layer_to (Some f) h
      ∙ ap (λ (b : Bool). cond b (stays here foot) (shuts here (raise f) foot)) (mild_raise f)
      ∙ ap (λ (x : Fixed bytes ℕ). record { fixed = layer_fixed a x; foot = foot; adds = refuses (own AfterShut a.layer n); says = silent; fresh = false; place = n; standing = Some (raise f) }) (sym (sent_fixed m orders))
      )

  abbrev n' : ℕ
  n' = place_on (k.counts o) n

  adds_is : (c : Bool) → k.closes o ≡ c → sent_fault m (down bs c) ≡ None → adds_on c o here ≡ layer_adds a (gone c) n' s' (sent m (down bs c)).adds
  adds_is true q h = refl
  adds_is false q h =
      ap (λ (z : Bool). λ p r. run_on a (a.move s o) z n n' m.adds (λ x y w. run a x y w p) r) q
      ∙ ap (λ (mv : Move a.St). λ p r. run_on a mv false n n' m.adds (λ x y w. run a x y w p) r) e
      ∙ ap (run a n' s') (sym (went m (down bs false) (down_going bs false) h))

  says_is : (c : Bool) → says_on c o here ≡ layer_says a (gone c) s'
  says_is true = refl
  says_is false = ap (λ (mv : Move a.St). λ p. a.tells (state_after a (state_on mv s) p)) e

  fresh_is : Stirs a → (c : Bool) → k.closes o ≡ c → sent_fault m (down bs c) ≡ None → layer_fresh a (gone c) s' (sent m (down bs c)).fresh ≡ false
  fresh_is st true q h = refl
  fresh_is st false q h = go bs e h
    where
      go : (ds : List ℕ) → a.move s o ≡ sends ds s' → sent_fault m (down ds false) ≡ None → both (sent m (down ds false)).fresh (a.ready s') ≡ false
      go [] x y = ap (both m.fresh) (st s o s' q x) ∙ both_false m.fresh
      go (d ∷ ds) x y = ap (λ (z : Bool). both z (a.ready s')) (staled m (put d) (down ds false) y)

  standing_is : (c : Bool) → stands (gone c) ≡ None
  standing_is true = refl
  standing_is false = refl

  -- accepted: the layer goes on, or is closed, over what stands below now
  pub layer_on : Stirs a → sent_fault m orders ≡ None → layer_means a (sent m orders) s' (gone (k.closes o)) n' ≡ after here o
  layer_on st h =
      let c = k.closes o in
      let F = sent_fixed m orders in
      let A = adds_is c refl h in
      let S = says_is c in
      let R = fresh_is st c refl h in
      let T = standing_is c in
      sym (layer_to None h ∙ (λ i. record { fixed = layer_fixed a (sym F i); foot = (sent m orders).foot; adds = A i; says = S i; fresh = sym R i; place = n'; standing = sym T i }))

-- a refusal of the layer's own
module _ {k : Kind} (a : Machine k) (m : Sink) (s : a.St) (n : ℕ) (o : k.Order) where
  own_adds : (c : Cause) → a.move s o ≡ stops c → (layer_means a m s Running n).adds [] o ≡ record { items = []; fault = Some (own c a.layer n) }
  own_adds c e = ap (λ (mv : Move a.St). moved a mv (k.closes o) n m.adds) e

  pub own_verdict : (c : Cause) → a.move s o ≡ stops c → verdict (layer_means a m s Running n) o ≡ Some (own c a.layer n)
  own_verdict c e = refused (layer_means a m s Running n) o (own c a.layer n) (own_adds c e)

  pub own_stays : (c : Cause) → a.move s o ≡ stops c → leaves c ≡ true → layer_means a m s Running n ≡ after (layer_means a m s Running n) o
  own_stays c e h = refused_stays (layer_means a m s Running n) o (own c a.layer n) (own_adds c e) h

  pub own_shut : (c : Cause) → a.move s o ≡ stops c → (u : a.St) → leaves c ≡ false → layer_means a m u (Shut (own c a.layer n)) n ≡ after (layer_means a m s Running n) o
  own_shut c e u h = refused_shuts (layer_means a m s Running n) o (own c a.layer n) (own_adds c e) h

  pub closed_verdict : verdict (layer_means a m s Closed n) o ≡ Some (own AfterClose a.layer n)
  closed_verdict = refused (layer_means a m s Closed n) o (own AfterClose a.layer n) refl

  pub closed_stays : layer_means a m s Closed n ≡ after (layer_means a m s Closed n) o
  closed_stays = refused_stays (layer_means a m s Closed n) o (own AfterClose a.layer n) refl refl

  pub shut_verdict : (f : Fault) → verdict (layer_means a m s (Shut f) n) o ≡ Some (own AfterShut a.layer n)
  shut_verdict f = refused (layer_means a m s (Shut f) n) o (own AfterShut a.layer n) refl

  pub shut_stays : (f : Fault) → layer_means a m s (Shut f) n ≡ after (layer_means a m s (Shut f) n) o
  shut_stays f = refused_stays (layer_means a m s (Shut f) n) o (own AfterShut a.layer n) refl refl
