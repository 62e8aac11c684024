-- A layer by the moves of its state, and what it means over a byte sink.
use Rattle.std.specs.Prelude.{◌≡◌, ℕ, suc, Bool, true, false, List, [], ◌∷◌, Some}
use Rattle.fault.specs.declared.fault.Fault.{Fault}
use Rattle.fault.specs.declared.cause.Cause.{Cause}
use Rattle.fault.specs.declared.cause.Cause.TheVariants.{AfterClose, AfterShut}
use Rattle.fault.specs.declared.layer.Layer.{Layer}
use Rattle.fault.specs.Faults.{own}
use Rattle.fault.specs.Answers.{raised}
use Rattle.orders.specs.declared.phase.Phase.{Phase}
use Rattle.orders.specs.declared.phase.Phase.TheVariants.{Running, Closed, Shut}
use Rattle.orders.specs.Meaning.{Kind, Added, Adds, Fixed, Meaning, refuses, silent, later_all}
use Rattle.orders.specs.Steps.{place_on}
use Rattle.orders.specs.Lists.{addition}
use Rattle.orders.specs.Phases.{stands}
use Rattle.undo.specs.Undoing.{Undoing}
use Rattle.sink.specs.Sink.{Sink, bytes, down}
use Rattle.sink.specs.Sink.{Order as SinkOrder}

-- what a layer does on an order: bytes go down (and the close behind them, if the order closes), or it refuses with a cause
pub data Move (St : Type 0) : Type 0 where
  sends : List ℕ → St → Move St
  stops : Cause → Move St

pub record Machine (k : Kind) : Type 1 where
  pub St : Type 0
  pub move : St → k.Order → Move St
  -- what an accepted order answers
  pub tells : St → k.Order → ℕ
  -- at a line beginning, with nothing held back
  pub ready : St → Bool
  pub layer : Layer
  -- what else it means, by the undoing of what stands below
  pub over : Undoing → k.Also

-- faults from below, one level higher
abbrev pub lifted : Added ℕ → Added ℕ
lifted a = record { items = a.items; fault = raised a.fault }

abbrev pub both : Bool → Bool → Bool
both true b = b
both false b = false

abbrev pub state_on : {St : Type 0} → Move St → St → St
state_on (sends bs t) s = t
state_on (stops c) s = s

module _ {k : Kind} (a : Machine k) where
  -- what a move adds, at place n, over what g says of the orders below
  abbrev pub moved : Move a.St → Bool → ℕ → Adds SinkOrder ℕ → Added ℕ
  moved (sends bs s) c n g = lifted (addition g (down bs c))
  moved (stops e) c n g = record { items = []; fault = Some (own e a.layer n) }

  abbrev pub run_on : Move a.St → Bool → ℕ → ℕ → Adds SinkOrder ℕ → (ℕ → a.St → Adds SinkOrder ℕ → k.Order → Added ℕ) → k.Order → Added ℕ
  run_on (sends bs s) false n n' g next o = next n' s (later_all (down bs false) g) o
  run_on (sends bs s) true n n' g next o = refuses (own AfterClose a.layer n') [] o
  run_on (stops e) c n n' g next o = refuses (own AfterShut a.layer n) [] o

  -- what orders add, from place n and state s, over what g says of the orders below
  abbrev pub run : ℕ → a.St → Adds SinkOrder ℕ → Adds k.Order ℕ
  run n s g [] o = moved (a.move s o) (k.closes o) n g
  run n s g (q ∷ p) o = run_on (a.move s q) (k.closes q) n (place_on (k.counts q) n) g (λ n' s' g'. run n' s' g' p) o

  abbrev pub state_after : a.St → List k.Order → a.St
  state_after s [] = s
  state_after s (q ∷ p) = state_after (state_on (a.move s q) s) p

  abbrev pub layer_adds : Phase Fault → ℕ → a.St → Adds SinkOrder ℕ → Adds k.Order ℕ
  layer_adds Running n s g = run n s g
  layer_adds Closed n s g = refuses (own AfterClose a.layer n)
  layer_adds (Shut f) n s g = refuses (own AfterShut a.layer n)

  abbrev pub layer_says : Phase Fault → a.St → List k.Order → k.Order → ℕ
  layer_says Running s = λ p. a.tells (state_after s p)
  layer_says Closed s = silent
  layer_says (Shut f) s = silent

  abbrev pub layer_fresh : Phase Fault → a.St → Bool → Bool
  layer_fresh Running s b = both b (a.ready s)
  layer_fresh Closed s b = false
  layer_fresh (Shut f) s b = false

  -- the permit is passed up, its faults one level higher
  abbrev pub layer_fixed : Fixed bytes ℕ → Fixed k ℕ
  layer_fixed f = record { end = f.end; above = suc f.above; layer = a.layer; also = a.over f.also }

  -- over the sink m, in state s, after n accepted bytes
  abbrev pub layer_means : Sink → a.St → Phase Fault → ℕ → Meaning k ℕ
  layer_means m s ph n = record {
    fixed = layer_fixed m.fixed;
    foot = m.foot;
    adds = layer_adds ph n s m.adds;
    says = layer_says ph s;
    fresh = layer_fresh ph s m.fresh;
    place = n;
    standing = stands ph;
  }

  -- an accepted order that sends nothing leaves no state that counts as ready
  abbrev pub Stirs : Type 0
  Stirs = (s : a.St) (o : k.Order) (t : a.St) → k.closes o ≡ false → a.move s o ≡ sends [] t → a.ready t ≡ false
