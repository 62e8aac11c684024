-- A wire byte at a reader that goes on: it still goes on, or is shut.
use Rattle.std.proofs.Common.{◌≡◌, ℕ, [], Some, None, Ok, Err, Option, Result, sym, refl, ap, ◌∙◌}
use Rattle.fault.specs.declared.fault.Fault.{Fault}
use Rattle.fault.specs.declared.layer.Layer.{Layer}
use Rattle.fault.specs.Answers.{told, answer, arisen}
use Rattle.orders.specs.declared.phase.Phase.{Phase}
use Rattle.orders.specs.declared.phase.Phase.TheVariants.{Running, Closed, Shut}
use Rattle.orders.specs.Phases.{phased, running, settled as settles}
use Rattle.orders.proofs.Answering.{answer_err, answer_ok}
use Rattle.undo.specs.Undoing.{fed}
use Rattle.reading.specs.Machine.{State, Step, hands, refuses, step}
use Rattle.reader.specs.Handing.{hand}
use Rattle.reader.specs.Reading.{Reading, with_taker, with_phase, with_undo, phase_by, handed_on, stepped, undone_byte, wire_byte, settled, unless_over, byte}

-- not refused for its phase, it is running
pub goes_on : {F : Type 0} (means : F → Fault) (p : Phase F) (l : Layer) (n : ℕ) → Ok (tt {0}) ≡ arisen l n (running p) → phased means p ≡ Running
goes_on means Running l n e = refl
goes_on means Closed l n e = cc
goes_on means (Shut f) l n e = cc

module _ {E : Type 0} where
  -- a byte leaves the phase to what it is settled to
  told_phase : (v : Option Fault) (r : Reading E) (s : State) → (handed_on v r s).left.phase ≡ r.phase
  told_phase None r s = refl
  told_phase (Some f) r s = refl

  step_phase : (r : Reading E) (x : Step) → (stepped r x).left.phase ≡ r.phase
  step_phase r (hands es s) = told_phase (hand r.taker r.number es).fault (with_taker r (hand r.taker r.number es)) s
  step_phase r (refuses c) = refl

  undone_phase : (r : Reading E) (a : Result (Option ℕ) Fault) → (undone_byte r a).left.phase ≡ r.phase
  undone_phase r (Ok (Some c)) = step_phase r (step r.line c)
  undone_phase r (Ok None) = refl
  undone_phase r (Err f) = refl

  wire_phase : (r : Reading E) (b : ℕ) → (wire_byte r b).left.phase ≡ r.phase
  wire_phase r b = undone_phase (with_undo r (fed r.undo b)) (r.undo.takes [] b)

  module _ (r : Reading E) (b : ℕ) (goes : r.phase ≡ Running) where
    is_settled : (v : Option Fault) → (wire_byte r b).fault ≡ v → (byte r b).left ≡ with_phase (wire_byte r b).left (phase_by v Running)
    is_settled v e = cc (ap (λ (q : Phase Fault). unless_over q r (settled Running (wire_byte r b))) goes)

    pub byte_accepted : Ok (tt {0}) ≡ answer (tt {0}) (wire_byte r b).fault → (wire_byte r b).left ≡ (byte r b).left
    byte_accepted e = sym (is_settled None (answer_ok tt tt _ e) ∙ ap (with_phase (wire_byte r b).left) (sym (wire_phase r b ∙ goes)))

    pub byte_refused : (f : Fault) → Err f ≡ answer (tt {0}) (wire_byte r b).fault → with_phase (wire_byte r b).left (Shut f) ≡ (byte r b).left
    byte_refused f e = sym (is_settled (Some f) (answer_err tt f _ e))

    -- what the byte came to settles the phase
    pub byte_settled : {F : Type 0} (means : F → Fault) (p : Phase F) (a : Result (Unit {0}) F) → phased means p ≡ (wire_byte r b).left.phase → told means a ≡ answer (tt {0}) (wire_byte r b).fault → with_phase (wire_byte r b).left (phased means (settles a p)) ≡ (byte r b).left
    byte_settled means p (Ok x) q e = ap (with_phase (wire_byte r b).left) q ∙ byte_accepted e
    byte_settled means p (Err f) q e = byte_refused (means f) e
