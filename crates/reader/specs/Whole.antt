-- What a chunk comes to as a whole: what the undoing stage gives for it, what the bytes given hand on by the rules of reading, and
-- what the taker makes of that.
use Rattle.std.specs.Prelude.{◌≡◌, ℕ, ◌+◌, ◌≤◌, min, List, [], ◌∷◌, Some, None, Ok, Err, Option, Result}
use Rattle.fault.specs.declared.fault.Fault.{Fault}
use Rattle.fault.specs.declared.cause.Cause.{Cause}
use Rattle.fault.specs.declared.layer.Layer.TheVariants.{Reader as reader_layer}
use Rattle.fault.specs.Faults.{own, most}
use Rattle.fault.specs.Answers.{raised, or_else}
use Rattle.orders.specs.declared.phase.Phase.TheVariants.{Running}
use Rattle.undo.specs.Undoing.{undone}
use Rattle.reading.specs.Machine.{State, Step, hands, refuses, step}
use Rattle.reading.specs.Runs.{Run, run}
use Rattle.reader.specs.Handing.{Handing, hand}
use Rattle.reader.specs.Reading.{Reading, bytes}

abbrev pub read_count_by : Step → (State → ℕ) → ℕ
read_count_by (hands es s) rest = 1 + rest s
read_count_by (refuses c) rest = 0

-- how many bytes are read before the first that the rules of reading refuse
abbrev pub read_count : State → List ℕ → ℕ
read_count s [] = 0
read_count s (b ∷ bs) = read_count_by (step s b) (λ t. read_count t bs)

abbrev pub refusal_of : Result State Cause → ℕ → Option Fault
refusal_of (Ok s) n = None
refusal_of (Err c) n = Some (own c reader_layer n)

module _ {E : Type 0} (r : Reading E) (bs : List ℕ) where
  -- the bytes that the undoing stage gives, to its first refusal
  abbrev pub given : List ℕ
  given = (undone r.undo bs).given

  -- what those hand on, to the first that the rules refuse
  abbrev pub read_as : Run
  read_as = run r.line given

  -- what the taker makes of that, to its first refusal
  abbrev pub made : Handing E
  made = hand r.taker r.number read_as.handed

  -- the first refusal of all: the taker was handed only what stands before a refusal by the rules, and the rules only what stands
  -- before a refusal by the undoing stage
  abbrev pub first_fault : Option Fault
  first_fault = or_else (raised made.fault) (or_else (refusal_of read_as.left (min (r.place + read_count r.line given) most)) (raised (undone r.undo bs).refused))

  pub record AsAWhole : Type 0 where
    pub taker : (bytes r bs).left.taker ≡ made.taker
    pub number : (bytes r bs).left.number ≡ made.number
    pub fault : (bytes r bs).fault ≡ first_fault
    -- with nothing refused, it stands where the bytes lead to, and has counted them
    pub line : (bytes r bs).fault ≡ None → read_as.left ≡ Ok (bytes r bs).left.line
    pub place : (bytes r bs).fault ≡ None → (bytes r bs).left.place ≡ min (r.place + read_count r.line given) most

abbrev pub Whole : {E : Type 0} → Reading E → List ℕ → Type 0
Whole r bs = r.phase ≡ Running → r.place ≤ most → AsAWhole r bs
