-- The next line of a text as the rules have it, and as it is computed.
use Rattle.std.proofs.Common.{◌≡◌, ℕ, ◌<◌, Bool, true, false, cond, length, take, drop, Some, None, Option, refl, ap, arith, length-drop, MatchOption}
use Rattle.std.proofs.lemmas.Bool.{leb-true, leb-false}
use Rattle.folding.specs.Text.{Text}
use Rattle.folding.specs.WireLine.{width}
use Rattle.folding.specs.Breaks.{Break, Unbroken, FirstBreak, LongestFitting, NoneFitting}
use Rattle.folding.specs.Relation.{LastLine, FlowedLine}
use Rattle.folding.specs.Folding.{fits, longest, shortest, Next, last_line, piece, no_line, step_1, step_2, step_3, next}
use Rattle.folding.proofs.Widths.{width_front, width_mono}
use Rattle.folding.proofs.Breaks.{break_some}
use Rattle.folding.proofs.Pieces.{shortest_tells, longest_tells}

-- the rules allow no line: neither the rest nor a piece that ends at a break has width at most 998
pub record NoLine (d w : ℕ) (t : Text) : Type 0 where
  pub over : w < width d t
  pub none_fits : NoneFitting d w t
  pub none_short : NoneFitting d 998 t
  pub rest : 998 < width d t

-- the next line, by the rules
abbrev pub IsNext : ℕ → ℕ → Text → Next → Type 0
IsNext d w t last_line = LastLine d w t
IsNext d w t (piece n) = FlowedLine d w t n
IsNext d w t no_line = NoLine d w t

module _ (d w : ℕ) (t : Text) where
  pub next_is : IsNext d w t (next d w t)
  unfolding next
  next_is = go (fits d w t) refl (longest d w t) (longest_tells d w t) (shortest t) (shortest_tells t)
    where
      rest : (x : Bool) → fits d 998 t ≡ x → w < width d t → NoneFitting d w t → Unbroken t → IsNext d w t (cond x last_line no_line)
      rest true e o h u = LastLine.unbroken o u (leb-true (width d t) 998 e)
      rest false e o h u = record { over = o; none_fits = h; none_short = λ j b. absurd (u j b); rest = leb-false (width d t) 998 e }

      first : (n : ℕ) (x : Bool) → fits d 998 (take n t) ≡ x → w < width d t → NoneFitting d w t → FirstBreak t n →
          IsNext d w t (cond x (piece n) no_line)
      first n true e o h b = FlowedLine.shortest o h b (leb-true (width d (take n t)) 998 e)
      first n false e o h b =
          let long = leb-false (width d (take n t)) 998 e in
          record {
            over = o;
            none_fits = h;
            none_short = λ j c.
                let behind : j < n → ⊥ = λ l. b.none_before j l c in
                omega (arith, width_mono d n j t (omega arith));
            rest = omega (arith, width_front d n t);
          }

      go : (x : Bool) → fits d w t ≡ x → (l : Option ℕ) → MatchOption l (NoneFitting d w t) (LongestFitting d w t) → (s : Option ℕ) →
          MatchOption s (Unbroken t) (FirstBreak t) → IsNext d w t (step_1 x (step_2 l (step_3 d t s)))
      go true e l hl s hs = LastLine.fitting (leb-true (width d t) w e)
      go false e (Some n) hl s hs = FlowedLine.longest (leb-false (width d t) w e) hl
      go false e None hl (Some n) hs = first n (fits d 998 (take n t)) refl (leb-false (width d t) w e) hl hs
      go false e None hl None hs = rest (fits d 998 t) refl (leb-false (width d t) w e) hl hs

-- and the rules allow no second
module _ (d w : ℕ) (t : Text) where
  last_or_piece : {n : ℕ} → LastLine d w t → FlowedLine d w t n → ⊥
  last_or_piece (LastLine.fitting l) (FlowedLine.longest o h) = omega arith
  last_or_piece (LastLine.fitting l) (FlowedLine.shortest o h f s) = omega arith
  last_or_piece {n} (LastLine.unbroken p u l) (FlowedLine.longest o h) = u n h.here
  last_or_piece {n} (LastLine.unbroken p u l) (FlowedLine.shortest o h f s) = u n f.here

  last_or_none : LastLine d w t → NoLine d w t → ⊥
  last_or_none (LastLine.fitting l) h = omega (arith, h.over)
  last_or_none (LastLine.unbroken o u l) h = omega (arith, h.rest)

  piece_or_none : {n : ℕ} → FlowedLine d w t n → NoLine d w t → ⊥
  piece_or_none {n} (FlowedLine.longest o h) g = omega (arith, h.fits, g.none_fits n h.here)
  piece_or_none {n} (FlowedLine.shortest o h f s) g = omega (arith, g.none_short n f.here)

  one_piece : {m n : ℕ} → FlowedLine d w t m → FlowedLine d w t n → m ≡ n
  one_piece {m} {n} (FlowedLine.longest o a) (FlowedLine.longest p b) =
      let no_less : m < n → ⊥ = λ l. omega (arith, a.wider_behind n l b.here, b.fits) in
      let no_more : n < m → ⊥ = λ l. omega (arith, b.wider_behind m l a.here, a.fits) in
      omega arith
  one_piece {m} (FlowedLine.longest o a) (FlowedLine.shortest p h b s) = absurd (omega (arith, h m a.here, a.fits))
  one_piece {m} {n} (FlowedLine.shortest o h a s) (FlowedLine.longest p b) = absurd (omega (arith, h n b.here, b.fits))
  one_piece {m} {n} (FlowedLine.shortest o h a s) (FlowedLine.shortest p g b q) =
      let no_less : m < n → ⊥ = λ l. b.none_before m l a.here in
      let no_more : n < m → ⊥ = λ l. a.none_before n l b.here in
      omega arith

  one_next : (x y : Next) → IsNext d w t x → IsNext d w t y → x ≡ y
  one_next last_line last_line a b = refl
  one_next last_line (piece n) a b = absurd (last_or_piece a b)
  one_next last_line no_line a b = absurd (last_or_none a b)
  one_next (piece m) last_line a b = absurd (last_or_piece b a)
  one_next (piece m) (piece n) a b = ap piece (one_piece a b)
  one_next (piece m) no_line a b = absurd (piece_or_none a b)
  one_next no_line last_line a b = absurd (last_or_none b a)
  one_next no_line (piece n) a b = absurd (piece_or_none b a)
  one_next no_line no_line a b = refl

  pub next_by : (x : Next) → IsNext d w t x → next d w t ≡ x
  next_by x h = one_next (next d w t) x (next_is d w t) h

  -- a line that is not the last leaves less
  pub flowed_break : {n : ℕ} → FlowedLine d w t n → Break t n
  flowed_break (FlowedLine.longest o h) = h.here
  flowed_break (FlowedLine.shortest o h f s) = f.here

  pub less_left : {n : ℕ} → FlowedLine d w t n → length (drop n t) < length t
  less_left {n} h = let b = flowed_break h in omega (arith, length-drop n t, break_some t n b, b.before_text)
