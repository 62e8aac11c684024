-- The rules of folding, as a relation between a settled text and its lines.
use Rattle.std.specs.Prelude.{ℕ, ◌<◌, ◌≤◌, [], take, drop, ◌≢◌}
use Rattle.folding.specs.Text.{Text, signature}
use Rattle.folding.specs.WireLine.{width}
use Rattle.folding.specs.Breaks.{Unbroken, FirstBreak, LongestFitting, NoneFitting}
use Rattle.folding.specs.Folded.{Folded, one_line, line_before}

-- the rest of a text is the last line. (With CRLF, a line of width 998 is the longest that mail may hold: RFC 5321, 4.5.3.1.6)
pub data LastLine (d w : ℕ) (t : Text) : Type 0 where
  -- step 1: it makes a line of width at most w
  fitting : width d t ≤ w → LastLine d w t
  -- step 3: it is wider, but no break is left in it; its width is at most 998
  unbroken : w < width d t → Unbroken t → width d t ≤ 998 → LastLine d w t

-- the first n bytes of a text that is wider are the next line, and more lines follow
pub data FlowedLine (d w : ℕ) (t : Text) (n : ℕ) : Type 0 where
  -- step 2: the longest piece that ends at a break and has width at most w
  longest : w < width d t → LongestFitting d w t n → FlowedLine d w t n
  -- step 3: where there is none, the shortest piece that ends at a break; its width is at most 998
  shortest : w < width d t → NoneFitting d w t → FirstBreak t n → width d (take n t) ≤ 998 → FlowedLine d w t n

-- a text is folded from its start, line after line
pub data Steps (d w : ℕ) : Text → Folded → Type 0 where
  last : {t : Text} → LastLine d w t → Steps d w t (one_line t)
  line : {t : Text} {f : Folded} {n : ℕ} → FlowedLine d w t n → Steps d w (drop n t) f → Steps d w t (line_before (take n t) f)

-- the settled text 2D 2D 20 and the empty text are one line each, any other is folded from its start
pub data Folds (d w : ℕ) : Text → Folded → Type 0 where
  signature_line : Folds d w signature (one_line signature)
  empty_line : Folds d w [] (one_line [])
  steps : {t : Text} {f : Folded} → (t ≢ signature) → (t ≢ []) → Steps d w t f → Folds d w t f
