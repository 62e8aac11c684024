-- A line that is not the last stays as the text goes on, and where the rules allow no line, more text makes none.
use Rattle.std.proofs.Common.{◌≡◌, ℕ, ◌<◌, ◌≤◌, ◌++◌, length, take, ⊎_elim, arith}
use lib.Seq.{take-append-le}
use Rattle.std.proofs.lemmas.Bool.{cases_lt}
use Rattle.folding.specs.Text.{Text}
use Rattle.folding.specs.WireLine.{width}
use Rattle.folding.specs.Breaks.{Break, FirstBreak}
use Rattle.folding.specs.Relation.{FlowedLine}
use Rattle.folding.proofs.Widths.{wider, wider_take}
use Rattle.folding.proofs.Breaks.{break_on, break_back}
use Rattle.folding.proofs.NextLine.{NoLine}

module _ (d : ℕ) (t u : Text) where
  over_on : (v : ℕ) → v < width d t → v < width d (t ++ u)
  over_on v o = omega (arith, wider d t u)

  same_width : (j : ℕ) → j ≤ length t → width d (take j (t ++ u)) ≡ width d (take j t)
  same_width j l = rw (take-append-le j t u l)

  -- a piece at least as long as a text that is too wide is too wide
  wide_on : (v j : ℕ) → v < width d t → (Break t j → v < width d (take j t)) → Break (t ++ u) j → v < width d (take j (t ++ u))
  wide_on v j o h b = ⊎_elim
      (λ (l : j < length t). let k = h (break_back t u j l b) in omega (arith, same_width j (omega arith)))
      (λ (l : length t ≤ j). omega (arith, wider_take d j t u l))
      (cases_lt j (length t))

  first_on : (n : ℕ) → FirstBreak t n → FirstBreak (t ++ u) n
  first_on n h =
      let l = h.here.before_text in
      record { here = break_on t u n h.here; none_before = λ j a b. h.none_before j a (break_back t u j (omega arith) b) }

  pub flowed_stays : (w n : ℕ) → FlowedLine d w t n → FlowedLine d w (t ++ u) n
  flowed_stays w n (FlowedLine.longest o h) =
      let l = h.here.before_text in
      FlowedLine.longest (over_on w o) (record {
        here = break_on t u n h.here;
        fits = omega (arith, same_width n (omega arith), h.fits);
        wider_behind = λ j a. wide_on w j o (h.wider_behind j a);
      })
  flowed_stays w n (FlowedLine.shortest o h f s) =
      let l = f.here.before_text in
      FlowedLine.shortest (over_on w o) (λ j. wide_on w j o (h j)) (first_on n f) (omega (arith, same_width n (omega arith)))

  pub none_stays : (w : ℕ) → NoLine d w t → NoLine d w (t ++ u)
  none_stays w h = record {
    over = over_on w h.over;
    none_fits = λ j. wide_on w j h.over (h.none_fits j);
    none_short = λ j. wide_on 998 j h.rest (h.none_short j);
    rest = over_on 998 h.rest;
  }
