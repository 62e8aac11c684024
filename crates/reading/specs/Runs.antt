-- Bytes read one after the other.
use Rattle.std.specs.Prelude.{ℕ, List, [], ◌∷◌, ◌++◌, Ok, Err, Result}
use Rattle.fault.specs.declared.cause.Cause.{Cause}
use Rattle.reading.specs.Events.{Event}
use Rattle.reading.specs.Machine.{State, start, Step, hands, refuses, step, finish}

-- what bytes come to: what they hand on to the first refusal, and the state then, or that refusal
pub record Run : Type 0 where
  pub handed : List Event
  pub left : Result State Cause

abbrev pub run_by : Step → (State → Run) → Run
run_by (hands es s) rest = record { handed = es ++ (rest s).handed; left = (rest s).left }
run_by (refuses c) rest = record { handed = []; left = Err c }

abbrev pub run : State → List ℕ → Run
run s [] = record { handed = []; left = Ok s }
run s (b ∷ bs) = run_by (step s b) (λ t. run t bs)

-- what bytes and a finish behind them hand on, or the first refusal
abbrev pub behind_events : List Event → Result (List Event) Cause → Result (List Event) Cause
behind_events es (Ok fs) = Ok (es ++ fs)
behind_events es (Err c) = Err c

abbrev pub finish_by : List Event → Result State Cause → Result (List Event) Cause
finish_by es (Ok s) = behind_events es (finish s)
finish_by es (Err c) = Err c

abbrev pub read : List ℕ → Result (List Event) Cause
read bs = finish_by (run start bs).handed (run start bs).left
