-- How a history grows.
use Rattle.std.specs.Prelude.{◌≡◌, ℕ, List, [], ◌∷◌, ◌++◌, length, None, Ok, Result}
use Rattle.fault.specs.declared.fault.Fault.{Fault}
use Rattle.taker.specs.Paragraph.{Taker}
use Rattle.history.specs.History.{Step, asked, fed, to_open, to_end, Reached}

-- by the steps k, the newest first, from what m means to what n means
abbrev pub Grows : {E : Type 0} → Taker E → Taker E → List Step → Type 0
Grows {E} m n k = (start : Taker E) (h : List Step) → Reached start h m → Reached start (k ++ h) n

-- an accepted paragraph: an open at the depth, its whole text, and an end by its number, which answers the lines
abbrev pub whole : ℕ → List ℕ → ℕ → ℕ → List Step
whole d t n lines = asked (to_end n) (Ok lines) ∷ fed t (length t) None ∷ asked (to_open d) (Ok n) ∷ []

-- the history grows by some steps; where the answer is a number, by a whole paragraph
pub record Handed {E : Type 0} (m n : Taker E) (d : ℕ) (t : List ℕ) (r : Result ℕ Fault) : Type 0 where
  pub steps : List Step
  pub grows : Grows m n steps
  pub accepted : (lines : ℕ) → r ≡ Ok lines → (k : ℕ) × (steps ≡ whole d t k lines)

-- by some steps
abbrev pub GrowsSome : {E : Type 0} → Taker E → Taker E → Type 0
GrowsSome m n = (k : List Step) × Grows m n k

-- by steps of which S holds
pub record GrowsBy {E : Type 0} (m n : Taker E) (S : List Step → Type 0) : Type 0 where
  pub steps : List Step
  pub so : S steps
  pub grows : Grows m n steps
