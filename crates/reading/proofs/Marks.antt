-- The quote marks that lead a line.
use Rattle.std.proofs.Common.{◌≡◌, ℕ, zero, suc, ◌+◌, Bool, true, false, cond, ◌&&◌, eqb, [], ◌∷◌, ◌++◌, replicate, sym, refl, ap, ◌∙◌, zero-add, arith}
use Rattle.std.proofs.lemmas.Bool.{both_ways, and_left, and_right}
use Rattle.folding.specs.Text.{Text}
use Rattle.folding.specs.WireLine.{quote_mark}
use Rattle.folding.specs.Reading.{deeper, read_line, unstuffed}
use Rattle.reading.specs.Lines.{Clean}

pub marks_clean : (n : ℕ) → Clean (replicate n quote_mark)
marks_clean zero = tt
marks_clean (suc n) = (refl, marks_clean n)

-- whether a line is so far nothing but quote marks
abbrev pub all_marks : Text → Bool
all_marks [] = true
all_marks (b ∷ t) = eqb b quote_mark && all_marks t

pub marks_all : (n : ℕ) → all_marks (replicate n quote_mark) ≡ true
marks_all zero = refl
marks_all (suc n) = marks_all n

all_marks_append : (t u : Text) → all_marks (t ++ u) ≡ (all_marks t && all_marks u)
all_marks_append [] u = refl
all_marks_append (b ∷ t) u = go (eqb b quote_mark) (all_marks_append t u)
  where
    go : (x : Bool) → all_marks (t ++ u) ≡ (all_marks t && all_marks u) → (x && all_marks (t ++ u)) ≡ (x && all_marks t && all_marks u)
    go true e = e
    go false e = refl

pub marked_longer : (t u : Text) → all_marks t ≡ false → all_marks (t ++ u) ≡ false
marked_longer t u e = all_marks_append t u ∙ and_left (all_marks t) (all_marks u) e

pub marked_by : (t : Text) (b : ℕ) → eqb b quote_mark ≡ false → all_marks (t ++ b ∷ []) ≡ false
marked_by t b e = all_marks_append t (b ∷ []) ∙ and_right (all_marks t) (eqb b quote_mark && true) (and_left (eqb b quote_mark) true e)

pub depth_marks : (n : ℕ) (t : Text) → (read_line (replicate n quote_mark ++ t)).depth ≡ n + (read_line t).depth
depth_marks zero t = sym (zero-add (read_line t).depth)
depth_marks (suc n) t = omega (arith, depth_marks n t)

-- the depth is settled by a byte that is no quote mark
pub depth_settled : (t u : Text) → all_marks t ≡ false → (read_line (t ++ u)).depth ≡ (read_line t).depth
depth_settled [] u e = absurd (both_ways true e refl)
depth_settled (b ∷ t) u e = go (eqb b quote_mark) e (depth_settled t u)
  where
    go : (x : Bool) → (x && all_marks t) ≡ false → (all_marks t ≡ false → (read_line (t ++ u)).depth ≡ (read_line t).depth) →
        (cond x (deeper (read_line (t ++ u))) (record { depth = 0; content = unstuffed (b ∷ (t ++ u)) })).depth
        ≡ (cond x (deeper (read_line t)) (record { depth = 0; content = unstuffed (b ∷ t) })).depth
    go true e rest = ap (λ (n : ℕ). n + 1) (rest e)
    go false e rest = refl
