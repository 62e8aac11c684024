-- What an order does: when it is accepted, what it answers, and what it leaves.
use Rattle.std.specs.Prelude.{ℕ, ◌+◌, min, Bool, true, false, cond, List, [], length, Some, None, Option, Result, ◌==◌}
use Rattle.fault.specs.declared.fault.Fault.{Fault}
use Rattle.fault.specs.declared.cause.Cause.TheVariants.{AfterClose, AfterShut}
use Rattle.fault.specs.Faults.{own, most, leaves}
use Rattle.fault.specs.Answers.{or_else, answer}
use Rattle.orders.specs.Meaning.{Kind, Meaning, Adds, bars, ending, refuses, silent, later}
use Rattle.orders.specs.Permits.{Filled, fill}

-- a foot's length as it is told
abbrev pub shown : {E : Type 0} → List E → ℕ
shown foot = min (length foot) most

-- one more, capped
abbrev pub grown : ℕ → ℕ
grown n = min (n + 1) most

abbrev pub place_on : Bool → ℕ → ℕ
place_on true n = grown n
place_on false n = n

-- a refusal of the taker's own that leaves all as it was
abbrev pub mild : Fault → Bool
mild f = cond (f.level == 0) (leaves f.cause) false

abbrev pub if_closing : Bool → Option Fault → Option Fault
if_closing true f = f
if_closing false f = None

-- the first fault of: the permit on the way, the addition, the permit to close
abbrev pub finished : {E : Type 0} → (List E → Option Fault) → Bool → Option Fault → Filled E → Filled E
finished ending c refused w = record { list = w.list; fault = or_else w.fault (or_else refused (if_closing c (ending w.list))) }

module _ {k : Kind} {E : Type 0} where
  -- the foot that an order reaches: the longest permitted beginning of its addition goes behind it; and the first fault on the way
  abbrev pub reached : Meaning k E → k.Order → Filled E
  reached m o = finished (ending m.fixed) (k.closes o) (m.adds [] o).fault (fill (bars m.fixed) m.foot (m.adds [] o).items)

  -- after an accepted order later ones add what they would have added after it; after close and finish all are refused
  abbrev pub adds_on : Bool → k.Order → Meaning k E → Adds k.Order E
  adds_on true o m = refuses (own AfterClose m.fixed.layer (place_on (k.counts o) m.place))
  adds_on false o m = later o m.adds

  abbrev pub says_on : Bool → k.Order → Meaning k E → List k.Order → k.Order → ℕ
  says_on true o m = silent
  says_on false o m = later o m.says

  -- accepted
  abbrev pub accepts : Meaning k E → k.Order → List E → Meaning k E
  accepts m o foot = record {
    fixed = m.fixed;
    foot = foot;
    adds = adds_on (k.closes o) o m;
    says = says_on (k.closes o) o m;
    fresh = false;
    place = place_on (k.counts o) m.place;
    standing = m.standing;
  }

  -- refused, and shut by the fault
  abbrev pub shuts : Meaning k E → Fault → List E → Meaning k E
  shuts m f foot = record {
    fixed = m.fixed;
    foot = foot;
    adds = refuses (own AfterShut m.fixed.layer m.place);
    says = silent;
    fresh = false;
    place = m.place;
    standing = Some f;
  }

  -- refused, and left as it was
  abbrev pub stays : Meaning k E → List E → Meaning k E
  stays m foot = record { fixed = m.fixed; foot = foot; adds = m.adds; says = m.says; fresh = m.fresh; place = m.place; standing = m.standing }

  abbrev pub settled : Meaning k E → k.Order → Option Fault → List E → Meaning k E
  settled m o None foot = accepts m o foot
  settled m o (Some f) foot = cond (mild f) (stays m foot) (shuts m f foot)

  -- the meaning after an order
  unfoldable pub after : Meaning k E → k.Order → Meaning k E
  after m o = settled m o (reached m o).fault (reached m o).list

  -- the fault that an order is refused with, if any
  unfoldable pub verdict : Meaning k E → k.Order → Option Fault
  verdict m o = (reached m o).fault

  -- what an accepted order answers: close and finish the foot's length
  abbrev pub value : Meaning k E → k.Order → ℕ
  value m o = cond (k.closes o) (shown (after m o).foot) (m.says [] o)

  abbrev pub answered : Meaning k E → k.Order → Result ℕ Fault
  answered m o = answer (value m o) (verdict m o)
