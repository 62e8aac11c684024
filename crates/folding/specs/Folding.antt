-- The folding as a function: the same rules, computed.
use Rattle.std.specs.Prelude.{ℕ, zero, suc, ◌+◌, Bool, true, false, cond, not, ◌&&◌, ◌||◌, [], ◌∷◌, length, take, drop, Some, None, Option, nat_le}
use Rattle.std.specs.Str.{bytes_eq}
use Rattle.folding.specs.Text.{Text, signature, ends_in_space, settled}
use Rattle.folding.specs.WireLine.{width}
use Rattle.folding.specs.Folded.{Folded, one_line, after_lines, wired}

abbrev pub fits : ℕ → ℕ → Text → Bool
fits d w p = nat_le (width d p) w

-- a break may stand behind a piece, if text follows it
abbrev pub breakable : Text → Bool
breakable p = ends_in_space p && not (bytes_eq p signature)

-- the greatest and the least number below n that pass a test
unfoldable pub greatest : (ℕ → Bool) → ℕ → Option ℕ
greatest p zero = None
greatest p (suc n) = elim (p n) [ true ↦ Some n | false ↦ greatest p n ]

abbrev pub or_else : Option ℕ → Bool → ℕ → Option ℕ
or_else (Some k) b n = Some k
or_else None true n = Some n
or_else None false n = None

unfoldable pub least : (ℕ → Bool) → ℕ → Option ℕ
least p zero = None
least p (suc n) = or_else (least p n) (p n) n

-- the length of the longest piece that ends at a break and fits, and of the shortest that ends at a break
abbrev pub longest : ℕ → ℕ → Text → Option ℕ
longest d w t = greatest (λ n. breakable (take n t) && fits d w (take n t)) (length t)

abbrev pub shortest : Text → Option ℕ
shortest t = least (λ n. breakable (take n t)) (length t)

-- the next line of a text: all of it, its first n bytes, or none, since the rules allow none
pub data Next : Type 0 where
  last_line : Next
  piece : ℕ → Next
  no_line : Next

abbrev pub step_1 : Bool → Next → Next
step_1 true otherwise = last_line
step_1 false otherwise = otherwise

abbrev pub step_2 : Option ℕ → Next → Next
step_2 (Some n) otherwise = piece n
step_2 None otherwise = otherwise

abbrev pub step_3 : ℕ → Text → Option ℕ → Next
step_3 d t (Some n) = cond (fits d 998 (take n t)) (piece n) no_line
step_3 d t None = cond (fits d 998 t) last_line no_line

unfoldable pub next : ℕ → ℕ → Text → Next
next d w t = step_1 (fits d w t) (step_2 (longest d w t) (step_3 d t (shortest t)))

-- the next line, and then what folds the text behind it
abbrev pub fold_next : Next → Text → (Text → Option Folded) → Option Folded
fold_next last_line t more = Some (one_line t)
fold_next (piece n) t more = after_lines (take n t ∷ []) (more (drop n t))
fold_next no_line t more = None

-- a text folded from its start in at most k lines
unfoldable pub lines_in : ℕ → ℕ → ℕ → Text → Option Folded
lines_in zero d w t = None
lines_in (suc k) d w t = fold_next (next d w t) t (lines_in k d w)

-- there are enough, since each line but the last takes a byte at least
unfoldable pub from_start : ℕ → ℕ → Text → Option Folded
from_start d w t = lines_in (length t + 1) d w t

-- the folding of a settled text at depth d and width w, or none
abbrev pub folding : ℕ → ℕ → Text → Option Folded
folding d w t = cond (bytes_eq t signature || bytes_eq t []) (Some (one_line t)) (from_start d w t)

-- the wire bytes of a paragraph's text, or none
abbrev pub wire : ℕ → ℕ → Text → Option Text
wire d w t = wired d (folding d w (settled t))
