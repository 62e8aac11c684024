use Rattle.std.proofs.Common.{◌≡◌, true, Some, None, sym, ap, ◌∙◌}
use Rattle.fault.specs.Answers.{told, answer}
use Rattle.fault.specs.Kinds.{own_fault, layer_fault}
use Rattle.orders.specs.declared.phase.Phase.TheVariants.{Running}
use Rattle.orders.specs.Steps.{shown}
use Rattle.orders.specs.Lists.{reach}
use Rattle.sink.specs.Sink.{Sink, down}
use Rattle.ends.specs.Buffers.{taken}
use Rattle.ends.specs.Ends.{compare_means}
use Rattle.carry.specs.Back.{passed, returned}
use Rattle.carry.specs.Trip.{new_stage, trip_meant, trip_of, way_back}
use Rattle.orders.proofs.Answering.{answer_ok, answer_err}
use Rattle.carry.proofs.Tripping.{trip_back, trip_stuffed}
use Rattle.carry.proofs.carried.carry.Goals.{in-Ok, in-Err}
use Rattle.carry.proofs.carried.carry.Goals as goal

pub returns-clause-trip : goal.returns-clause-trip
returns-clause-trip c =
    let v = c.args.memory in
    let body = c.args.body.now in
    let m0 = c.over-stage.ensures.means in
    let sent = c.send-sent.ensures.answered ∙ ap (λ (m : Sink). answer (shown (taken c.send-sent.new.sink.below.holder)) (reach m (down body true) true).fault) m0 in
    let wire : taken c.into_buffer-wire.result ≡ (reach (new_stage v) (down body true) true).list = ap taken c.into_buffer-wire.ensures ∙ c.send-sent.ensures.foot ∙ ap (λ (m : Sink). (reach m (down body true) true).list) m0 in
    elim c.match-sent.branch [
      | in-Ok w ↦
          let none : (reach (new_stage v) (down body true) true).fault ≡ None = answer_ok _ _ _ (ap (told layer_fault) (sym w.in-Ok.is) ∙ sent) in
          let und = c.undoing-undoing.ensures ∙ ap (λ (m : Sink). m.fixed.also) m0 in
          let back = (λ i. returned (passed (und i) (compare_means body 0 Running) (w.bytes.ensures i))) ∙ trip_back v body _ none wire in
          ap (trip_meant layer_fault own_fault own_fault) w.trip-is ∙ w.return_wire-trip.ensures ∙ ap way_back back ∙ ap (λ x. trip_of x (shown body)) (sym none)
      | in-Err w ↦
          let some : (reach (new_stage v) (down body true) true).fault ≡ Some (layer_fault w.in-Err.f) = answer_err _ _ _ (ap (told layer_fault) (sym w.in-Err.is) ∙ sent) in
          ap (trip_meant layer_fault own_fault own_fault) w.trip-is ∙ ap (λ x. trip_of x (shown body)) (sym some)
    ]

pub returns-clause-stuffed : goal.returns-clause-stuffed
returns-clause-stuffed c = trip_stuffed c.args.memory c.args.body.now
