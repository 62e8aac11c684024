-- A text folded from its start, line by line, and with more text behind it.
use Rattle.std.proofs.Common.{◌≡◌, ℕ, zero, suc, ◌+◌, ◌<◌, ◌≤◌, List, [], ◌∷◌, ◌++◌, length, take, drop, Some, None, Option, sym, refl, ap, ◌∙◌, append_assoc, arith}
use lib.Seq.{take-append-le, drop-append-le}
use Rattle.folding.specs.Text.{Text}
use Rattle.folding.specs.Folded.{Folded, one_line, after_lines}
use Rattle.folding.specs.Relation.{LastLine, FlowedLine}
use Rattle.folding.specs.Folding.{Next, last_line, piece, no_line, next, fold_next, lines_in, from_start}
use Rattle.folding.proofs.NextLine.{NoLine, IsNext, next_is, next_by, flowed_break, less_left}
use Rattle.folding.proofs.Extending.{flowed_stays, none_stays}

-- how many lines there may be does not matter once there may be enough
enough : (d w : ℕ) (k m : ℕ) (t : Text) → length t < k → length t < m → lines_in k d w t ≡ lines_in m d w t
unfolding lines_in
enough d w zero m t a b = absurd (omega arith)
enough d w (suc k) zero t a b = absurd (omega arith)
enough d w (suc k) (suc m) t a b = go (next d w t) (next_is d w t) (enough d w k m)
  where
    go : (x : Next) → IsNext d w t x → ((s : Text) → length s < k → length s < m → lines_in k d w s ≡ lines_in m d w s) →
        fold_next x t (lines_in k d w) ≡ fold_next x t (lines_in m d w)
    go last_line h r = refl
    go no_line h r = refl
    go (piece n) h r = let l = less_left d w t h in ap (after_lines (take n t ∷ [])) (r (drop n t) (omega arith) (omega arith))

pub line_by_line : (d w : ℕ) (t : Text) → from_start d w t ≡ fold_next (next d w t) t (from_start d w)
unfolding from_start lines_in
line_by_line d w t = enough d w (length t + 1) (suc (length t)) t (omega arith) (omega arith) ∙ go (next d w t) (next_is d w t)
  where
    go : (x : Next) → IsNext d w t x → fold_next x t (lines_in (length t) d w) ≡ fold_next x t (λ s. lines_in (length s + 1) d w s)
    go last_line h = refl
    go no_line h = refl
    go (piece n) h =
        let rest = enough d w (length t) (length (drop n t) + 1) (drop n t) (less_left d w t h) (omega arith) in
        ap (after_lines (take n t ∷ [])) rest

-- by what the rules say of the next line
module _ (d w : ℕ) (t : Text) where
  pub from_start_by : (x : Next) → IsNext d w t x → from_start d w t ≡ fold_next x t (from_start d w)
  from_start_by x h = line_by_line d w t ∙ ap (λ y. fold_next y t (from_start d w)) (next_by d w t x h)

  pub from_start_last : LastLine d w t → from_start d w t ≡ Some (one_line t)
  from_start_last h = from_start_by last_line h

  pub from_start_line : (n : ℕ) → FlowedLine d w t n → from_start d w t ≡ after_lines (take n t ∷ []) (from_start d w (drop n t))
  from_start_line n h = from_start_by (piece n) h

  pub from_start_none : NoLine d w t → from_start d w t ≡ None
  from_start_none h = from_start_by no_line h

-- a folding whose last line goes on
abbrev pub fold_on : ℕ → ℕ → Option Folded → Text → Option Folded
fold_on d w None u = None
fold_on d w (Some f) u = after_lines f.flowed (from_start d w (f.last ++ u))

pub after_after : (ps qs : List Text) (o : Option Folded) → after_lines (ps ++ qs) o ≡ after_lines ps (after_lines qs o)
after_after ps qs None = refl
after_after ps qs (Some f) = ap (λ (l : List Text). Some (record { flowed = l; last = f.last })) (append_assoc ps qs f.flowed)

pub after_none : (o : Option Folded) → after_lines [] o ≡ o
after_none None = refl
after_none (Some f) = refl

fold_on_after : (d w : ℕ) (ps : List Text) (o : Option Folded) (u : Text) →
    fold_on d w (after_lines ps o) u ≡ after_lines ps (fold_on d w o u)
fold_on_after d w ps None u = refl
fold_on_after d w ps (Some f) u = after_after ps f.flowed (from_start d w (f.last ++ u))

from_start_in : (k : ℕ) (d w : ℕ) (t u : Text) → length t < k → from_start d w (t ++ u) ≡ fold_on d w (from_start d w t) u
from_start_in zero d w t u a = absurd (omega arith)
from_start_in (suc k) d w t u a = go (next d w t) (next_is d w t) (from_start_in k d w)
  where
    go : (x : Next) → IsNext d w t x → ((s v : Text) → length s < k → from_start d w (s ++ v) ≡ fold_on d w (from_start d w s) v) →
        from_start d w (t ++ u) ≡ fold_on d w (from_start d w t) u
    go last_line h r = rw (from_start_last d w t h) (sym (after_none (from_start d w (t ++ u))))
    go no_line h r = rw (from_start_none d w t h, from_start_none d w (t ++ u) (none_stays d t u w h))
    go (piece n) h r =
        let l = (flowed_break d w t h).before_text in
        let less = less_left d w t h in
        let below : n ≤ length t = omega arith in
        let longer = from_start_line d w (t ++ u) n (flowed_stays d t u w n h) in
        let rest = r (drop n t) u (omega arith) in
        rw (longer, from_start_line d w t n h, take-append-le n t u below, drop-append-le n t u below, rest)
        (sym (fold_on_after d w (take n t ∷ []) (from_start d w (drop n t)) u))

-- the folding of a text goes on from its last line
pub from_start_append : (d w : ℕ) (t u : Text) → from_start d w (t ++ u) ≡ fold_on d w (from_start d w t) u
from_start_append d w t u = from_start_in (suc (length t)) d w t u (omega arith)
