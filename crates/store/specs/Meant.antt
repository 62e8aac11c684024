-- What a store of the code means, and what it refuses of its own.
use Rattle.std.specs.Prelude.{◌≡◌, min, Bool, true, false, take, Some, Ok, Err, vec_items, Result, ⊤}
use Rattle.std.proofs.Common.{arith}
use Rattle.fault.specs.declared.cause.Cause.{Cause}
use Rattle.fault.specs.declared.layer.Layer.TheVariants.{Store as Layered}
use Rattle.fault.specs.declared.own_fault.OwnFault.{OwnFault}
use Rattle.fault.specs.Faults.{leaves, most}
use Rattle.fault.specs.Kinds.{own_fault}
use Rattle.orders.specs.declared.phase.Phase.{Phase}
use Rattle.orders.specs.declared.phase.Phase.TheVariants.{Running, Shut}
use Rattle.orders.specs.Phases.{phased, running}
use Rattle.orders.specs.Steps.{after, verdict}
use Rattle.orders.specs.Bottom.{Step, takes, stops}
use Rattle.taker.specs.Paragraph.{Order, Taker}
use Rattle.taker.specs.Law.{Lawful}
use Rattle.store.specs.declared.store.Store.{Store}
use Rattle.store.specs.Events.{Event, in_use}
use Rattle.store.specs.Store.{Pages, store_step}
use Rattle.store.specs.Foot.{Filed, tiles_is}
use Rattle.store.specs.Lawful.{store_lawful}
use Rattle.store.specs.Contents.{contents, means_by}
use Rattle.store.specs.Keeps.{Keeps}

abbrev pub meant : Store → Taker Event
meant s = means_by (contents s) (phased own_fault s.phase)

pub filed : (s : Store) → Filed (vec_items s.records) (vec_items s.bytes) s.count s.inside s.used
filed s =
    let f = s.few in
    let r = s.room in
    let k = s.records.ok.0 in
    let l = s.bytes.ok.0 in
    record { few = omega arith; tiles = tiles_is (take (in_use s.count s.inside) (vec_items s.records)) s.used s.tiles; room = omega arith }

pub meant_lawful : (s : Store) → Lawful (meant s)
meant_lawful s = store_lawful (vec_items s.records) (vec_items s.bytes) s.count s.used s.inside (phased own_fault s.phase) (filed s) s.numbered

-- whether a step is taken, or the cause that it is refused with
abbrev pub own_answer : Step Pages Event → Result ⊤ Cause
own_answer (takes es t) = Ok tt
own_answer (stops c) = Err c

-- the first refusal of two
abbrev pub and_then : Result ⊤ Cause → Result ⊤ Cause → Result ⊤ Cause
and_then (Ok x) r = r
and_then (Err c) r = Err c

-- whether the store lets an order pass, or the cause of its own that it refuses it with
abbrev pub allowed : Store → Order → Result ⊤ Cause
allowed a o = and_then (running a.phase) (own_answer (store_step a.count a.inside o))

-- shut by the fault, unless its cause leaves all as it was
abbrev pub phase_by : Bool → OwnFault → Phase OwnFault → Phase OwnFault
phase_by true f p = p
phase_by false f p = Shut f

-- the store turned an order down with a cause of its own
pub record Turned (a b : Store) (c : Cause) (f : OwnFault) : Type 0 where
  pub fault : f ≡ record { cause = c; layer = Layered; place = min a.used most }
  pub holds : contents b ≡ contents a
  pub phase : b.phase ≡ phase_by (leaves c) f a.phase

-- the store refused the order o; or it is as it was, goes on, and the order is not its own to refuse
pub record RefusedSo (a b : Store) (o : Order) (f : OwnFault) : Type 0 where
  pub told : verdict (meant a) o ≡ Some (own_fault f)
  pub left : meant b ≡ after (meant a) o
  pub kept : Keeps a b

pub record LetPass (a b : Store) (o : Order) : Type 0 where
  pub same : b ≡ a
  pub goes_on : a.phase ≡ Running
  pub own_none : own_answer (store_step a.count a.inside o) ≡ Ok tt
