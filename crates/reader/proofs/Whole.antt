-- What a chunk comes to, byte by byte, is what it comes to as a whole.
use Rattle.std.proofs.Common.{◌≡◌, ℕ, ◌+◌, ◌≤◌, min, List, [], ◌∷◌, Some, None, Ok, Err, Option, Result, sym, refl, ap, ◌∙◌, subst, arith}
use Rattle.fault.specs.declared.fault.Fault.{Fault}
use Rattle.fault.specs.declared.cause.Cause.{Cause}
use Rattle.fault.specs.declared.layer.Layer.TheVariants.{Reader as reader_layer}
use Rattle.fault.specs.Faults.{own, raise, most}
use Rattle.fault.specs.Answers.{raised, or_else}
use Rattle.orders.specs.declared.phase.Phase.{Phase}
use Rattle.orders.specs.declared.phase.Phase.TheVariants.{Running}
use Rattle.orders.specs.Steps.{grown}
use Rattle.undo.specs.Undoing.{next, undone, undone_on, taken_by}
use Rattle.taker.specs.Paragraph.{Taker}
use Rattle.reading.specs.Machine.{State, Step, hands, refuses, step}
use Rattle.reading.specs.Runs.{run, run_by}
use Rattle.reader.specs.Handing.{Handing, hand}
use Rattle.reader.specs.Reading.{Reading, Read, with_phase, with_undo, on_line, with_taker, told, stepped, undone_byte, settled, then_read, bytes}
use Rattle.reader.specs.Whole.{read_count, read_count_by, refusal_of, AsAWhole, Whole}
use Rattle.reader.proofs.Handing.{handed_then, hand_append}

-- counting goes on where it was capped
counted_on : (p k : ℕ) → min (grown p + k) most ≡ min (p + (1 + k)) most
counted_on p k = omega arith

counted_none : (p : ℕ) → p ≤ most → p ≡ min (p + 0) most
counted_none p h = omega arith

not_none : (f : Fault) (A : Type 0) → ◌≡◌ {A = Option Fault} (Some f) None → A
not_none f A e = cc

module _ {E : Type 0} where
  -- x is what the first byte comes to, and bs are the others
  abbrev goes : Read E → List ℕ → Read E
  goes x bs = then_read x.fault x.left (bytes x.left bs)

  -- the same account, by what was handed on, where that leads, how many bytes were read, and what was not undone
  record Account (x : Read E) (h : Handing E) (a : Result State Cause) (n : ℕ) (f : Option Fault) : Type 0 where
    taker : x.left.taker ≡ h.taker
    number : x.left.number ≡ h.number
    fault : x.fault ≡ or_else (raised h.fault) (or_else (refusal_of a (min n most)) (raised f))
    line : x.fault ≡ None → a ≡ Ok x.left.line
    place : x.fault ≡ None → x.left.place ≡ min n most

  module _ (bs : List ℕ) (ih : (r : Reading E) → r.place ≤ most → AsAWhole (with_phase r Running) bs) where
    -- the events of an undone byte were handed on
    told_whole : (r : Reading E) (s : State) (t : Taker E) (n : ℕ) (v : Option Fault) →
        let h : Handing E = record { taker = t; number = n; fault = v } in
        let rest = undone r.undo bs in
        Account (goes (settled Running (told r s h)) bs) (handed_then h (run s rest.given).handed) (run s rest.given).left (r.place + (1 + read_count s rest.given)) rest.refused
    told_whole r s t n (Some f) = record { taker = refl; number = refl; fault = refl; line = not_none (raise f) _; place = not_none (raise f) _ }
    told_whole r s t n None =
        let next = on_line (with_taker r (record { taker = t; number = n; fault = None })) s in
        let k = read_count s (undone r.undo bs).given in
        let w = ih next (omega arith) in
        record {
          taker = w.taker;
          number = w.number;
          fault = w.fault ∙ ap (λ (m : ℕ). or_else (raised (hand t n (run s (undone r.undo bs).given).handed).fault) (or_else (refusal_of (run s (undone r.undo bs).given).left m) (raised (undone r.undo bs).refused))) (counted_on r.place k);
          line = w.line;
          place = λ e. w.place e ∙ counted_on r.place k;
        }

    -- the step of an undone byte
    step_whole : (r : Reading E) (x : Step) → r.place ≤ most →
        let rest = undone r.undo bs in
        let ran = run_by x (λ t. run t rest.given) in
        Account (goes (settled Running (stepped r x)) bs) (hand r.taker r.number ran.handed) ran.left (r.place + read_count_by x (λ t. read_count t rest.given)) rest.refused
    step_whole r (refuses c) le = record {
      taker = refl;
      number = refl;
      fault = ap (λ (m : ℕ). Some (own c reader_layer m)) (counted_none r.place le);
      line = not_none (own c reader_layer r.place) _;
      place = not_none (own c reader_layer r.place) _;
    }
    step_whole r (hands es s) le =
        let h = hand r.taker r.number es in
        let rest = undone r.undo bs in
        subst (λ (m : Handing E). Account (goes (settled Running (told r s h)) bs) m (run s rest.given).left (r.place + (1 + read_count s rest.given)) rest.refused)
        (sym (hand_append r.taker r.number es (run s rest.given).handed))
        (told_whole r s h.taker h.number h.fault)

    -- a wire byte, by what the undoing stage makes of it
    byte_whole : (r : Reading E) (b : ℕ) (a : Result (Option ℕ) Fault) → r.place ≤ most →
        let all = undone_on a (undone (next b r.undo) bs) in
        let ran = run r.line all.given in
        Account (goes (settled Running (undone_byte (with_undo r (taken_by a b r.undo)) a)) bs) (hand r.taker r.number ran.handed) ran.left (r.place + read_count r.line all.given) all.refused
    byte_whole r b (Err f) le = record { taker = refl; number = refl; fault = refl; line = not_none (raise f) _; place = not_none (raise f) _ }
    byte_whole r b (Ok None) le =
        let w = ih (with_undo r (next b r.undo)) le in
        record { taker = w.taker; number = w.number; fault = w.fault; line = w.line; place = w.place }
    byte_whole r b (Ok (Some c)) le = step_whole (with_undo r (next b r.undo)) (step r.line c) le

  running_whole : (bs : List ℕ) (r : Reading E) → r.place ≤ most → AsAWhole (with_phase r Running) bs
  running_whole [] r le = record { taker = refl; number = refl; fault = refl; line = λ _. refl; place = λ _. counted_none r.place le }
  running_whole (b ∷ bs) r le =
      let w = byte_whole bs (running_whole bs) (with_phase r Running) b (r.undo.takes [] b) le in
      record { taker = w.taker; number = w.number; fault = w.fault; line = w.line; place = w.place }

  pub whole : (r : Reading E) (bs : List ℕ) → Whole r bs
  whole r bs run le = subst (λ (p : Phase Fault). AsAWhole (with_phase r p) bs) (sym run) (running_whole bs r le)
