-- What holds of a held line is a proposition, so that it can be taken out of a ghost field.
use mathlib.Core.Logic.{∥∥₁_elim}
use mathlib.Core.Bool.{Bool-set}
use Rattle.std.proofs.Common.{ℕ, Some, None, Option}
use native.Mathlib.Bridge.{le_prop}
use Rattle.folding.specs.Text.{Text}
use Rattle.folding.specs.Breaks.{Break, LastBreak}
use Rattle.folding.specs.Held.{Held, KnownBreak, Valid}

break_prop : (t : Text) (n : ℕ) → IsProp (Break t n)
break_prop t n = hlevel (Bool-set, le_prop)

last_break_prop : (t : Text) (n : ℕ) → IsProp (LastBreak t n)
last_break_prop t n = hlevel break_prop

known_prop : (d w : ℕ) (t : Text) (o : Option ℕ) → IsProp (KnownBreak d w t o)
known_prop d w t None = hlevel Bool-set
known_prop d w t (Some n) = hlevel (last_break_prop, le_prop)

valid_prop : (d w : ℕ) (h : Held) → IsProp (Valid d w h)
valid_prop d w h = hlevel (Bool-set, known_prop)

pub held_valid : (d w : ℕ) (h : Held) → ∥ Valid d w h ∥₁ → Valid d w h
held_valid d w h v = ∥∥₁_elim v (valid_prop d w h) (λ x. x)
