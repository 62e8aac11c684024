-- The longest and the shortest piece of a text, as they are computed.
use Rattle.std.proofs.Common.{ℕ, ◌<◌, ◌≤◌, not, ◌&&◌, length, take, Some, None, Decides, Option, arith, MatchOption}
use Rattle.std.specs.Str.{bytes_eq}
use Rattle.std.proofs.lemmas.Bool.{leb-true, le-leb}
use Rattle.std.proofs.lemmas.Bool.Decides.{Decides-and, Decides-not, Decides-like}
use Rattle.std.proofs.lemmas.Slice.Eq.{bytes_eq-Decides}
use Rattle.folding.specs.Text.{Text, signature, ends_in_space}
use Rattle.folding.specs.WireLine.{width}
use Rattle.folding.specs.Breaks.{Break, Unbroken, FirstBreak, LongestFitting, NoneFitting}
use Rattle.folding.specs.Folding.{fits, breakable, longest, shortest}
use Rattle.folding.proofs.Searches.{Greatest, Least, NoneBelow, greatest_tells, least_tells}

break_decides : (t : Text) (n : ℕ) → n < length t → Decides (breakable (take n t)) (Break t n)
break_decides t n l =
    let p = take n t in
    let unsigned = Decides-not (bytes_eq p signature) (bytes_eq-Decides p signature) in
    Decides-like (breakable p)
    (λ h. record { behind_space = h.0; before_text = l; unsigned = h.1 })
    (λ b. (b.behind_space, b.unsigned))
    (Decides-and (ends_in_space p) (not (bytes_eq p signature)) (λ e. e, λ e. e) unsigned)

fits_decides : (d w : ℕ) (p : Text) → Decides (fits d w p) (width d p ≤ w)
fits_decides d w p = (leb-true (width d p) w, le-leb (width d p) w)

pub shortest_tells : (t : Text) → MatchOption (shortest t) (Unbroken t) (FirstBreak t)
shortest_tells t = go (shortest t) (least_tells (λ n. breakable (take n t)) (length t) (break_decides t))
  where
    go : (o : Option ℕ) → MatchOption o (NoneBelow (Break t) (length t)) (Least (Break t) (length t)) → MatchOption o (Unbroken t) (FirstBreak t)
    go None h = λ n b. h n b.before_text b
    go (Some n) h = record { here = h.holds; none_before = h.under }

pub longest_tells : (d w : ℕ) (t : Text) → MatchOption (longest d w t) (NoneFitting d w t) (LongestFitting d w t)
longest_tells d w t = go (longest d w t) (greatest_tells (λ n. breakable (take n t) && fits d w (take n t)) (length t) tests)
  where
    Fits : ℕ → Type 0
    Fits n = Break t n × (width d (take n t) ≤ w)

    tests : (n : ℕ) → n < length t → Decides (breakable (take n t) && fits d w (take n t)) (Fits n)
    tests n l = Decides-and (breakable (take n t)) (fits d w (take n t)) (break_decides t n l) (fits_decides d w (take n t))

    wide : (j : ℕ) → (width d (take j t) ≤ w → ⊥) → w < width d (take j t)
    wide j h = omega arith

    go : (o : Option ℕ) → MatchOption o (NoneBelow Fits (length t)) (Greatest Fits (length t)) →
        MatchOption o (NoneFitting d w t) (LongestFitting d w t)
    go None h = λ j b. wide j (λ l. h j b.before_text (b, l))
    go (Some n) h = record {
      here = h.holds.0;
      fits = h.holds.1;
      wider_behind = λ j a b. wide j (λ l. h.above j a b.before_text (b, l));
    }
