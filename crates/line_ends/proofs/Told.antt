-- The counts as one pass over the bytes tells them: 64 bits tell those of every text.
use Rattle.std.proofs.Common.{◌≡◌, ℕ, ◌+◌, ◌%◌, ◌^◌, ◌<◌, max, Bool, true, false, cond, ◌&&◌, eqb, List, [], ◌∷◌, length, ap, ◌∙◌, arith}
use Rattle.std.specs.List.{fold}
use Rattle.line_ends.specs.LineEnds.{one_if, line_feeds, leading_dots, widest}
use Rattle.line_ends.proofs.Counting.{one_at_most}

-- one more, as far as 64 bits tell
abbrev pub feeds_on : ℕ → ℕ → ℕ
feeds_on n b = (n + one_if (eqb b 10)) % 2 ^ 64

pub feeds_told : (t : List ℕ) (n : ℕ) → n + length t < 2 ^ 64 → fold feeds_on n t ≡ n + line_feeds t
feeds_told [] n h = omega arith
feeds_told (b ∷ t) n h =
    let k = one_if (eqb b 10) in
    let few = one_at_most (eqb b 10) in
    let e : (n + k) % 2 ^ 64 ≡ n + k = omega arith in
    ap (λ (m : ℕ). fold feeds_on m t) e ∙ feeds_told t (n + k) (omega arith) ∙ omega arith

-- the byte before, and the dots so far
abbrev pub dots_on : ℕ × ℕ → ℕ → ℕ × ℕ
dots_on a b = (b, (a.1 + one_if (eqb b 46 && eqb a.0 10)) % 2 ^ 64)

pub dots_told : (t : List ℕ) (p n : ℕ) → n + length t < 2 ^ 64 → (fold dots_on (p, n) t).1 ≡ n + leading_dots p t
dots_told [] p n h = omega arith
dots_told (b ∷ t) p n h =
    let k = one_if (eqb b 46 && eqb p 10) in
    let few = one_at_most (eqb b 46 && eqb p 10) in
    let e : (n + k) % 2 ^ 64 ≡ n + k = omega arith in
    ap (λ (m : ℕ). (fold dots_on (b, m) t).1) e ∙ dots_told t b (n + k) (omega arith) ∙ omega arith

-- the width so far, and the widest
abbrev pub widths_on : ℕ × ℕ → ℕ → ℕ × ℕ
widths_on a b = cond (eqb b 10) (0, max a.1 a.0) (cond (eqb b 13) a ((a.0 + 1) % 2 ^ 64, a.1))

abbrev pub told_widest : ℕ × ℕ → ℕ
told_widest a = max a.1 a.0

pub widths_told : (t : List ℕ) (w m : ℕ) → w + length t < 2 ^ 64 → told_widest (fold widths_on (w, m) t) ≡ widest w m t
widths_told [] w m h = omega arith
widths_told (b ∷ t) w m h = go (eqb b 10) (eqb b 13) (λ v k f. widths_told t v k f)
  where
    go : (x y : Bool) → ((v k : ℕ) → v + length t < 2 ^ 64 → told_widest (fold widths_on (v, k) t) ≡ widest v k t)
        → told_widest (fold widths_on (cond {A = ℕ × ℕ} x (0, max m w) (cond {A = ℕ × ℕ} y (w, m) ((w + 1) % 2 ^ 64, m))) t) ≡ widest (cond {A = ℕ × ℕ} x (0, max w m) (cond {A = ℕ × ℕ} y (w, m) (w + 1, m))).0 (cond {A = ℕ × ℕ} x (0, max w m) (cond {A = ℕ × ℕ} y (w, m) (w + 1, m))).1 t
    go true y r = r 0 (max m w) (omega arith) ∙ ap (λ (k : ℕ). widest 0 k t) (omega arith)
    go false true r = r w m (omega arith)
    go false false r = let e : (w + 1) % 2 ^ 64 ≡ w + 1 = omega arith in ap (λ (k : ℕ). told_widest (fold widths_on (k, m) t)) e ∙ r (w + 1) m (omega arith)
