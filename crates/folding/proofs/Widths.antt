-- The width of a line.
use Rattle.std.proofs.Common.{◌≡◌, ℕ, zero, suc, ◌+◌, ◌-◌, ◌<◌, ◌≤◌, Bool, true, false, [], ◌∷◌, ◌++◌, length, get_or, take, drop, replicate, refl, ap, ◌∙◌, arith, length-append, take-append-drop, length-take-le, take-take}
use lib.ListN.{length-replicate}
use lib.Seq.{take-append-add}
use Rattle.folding.specs.Text.{Text}
use Rattle.folding.specs.Laws.{LineWidths}
use Rattle.folding.specs.WireLine.{stuffed_by, stuffed, stuffing, lead_by, lead, width, quote_mark}

pub line_widths : LineWidths
unfolding width
line_widths d p = go (stuffed d p)
  where
    go : (x : Bool) → length (replicate d quote_mark ++ (stuffing x ++ p)) ≡ lead_by x d + length p
    go true = simp (length-append, length-replicate) (omega arith)
    go false = simp (length-append, length-replicate) (omega arith)

-- at most one byte stands between the quote marks and the piece
lead_by_between : (x : Bool) (d : ℕ) → (d ≤ lead_by x d) × (lead_by x d ≤ d + 1)
lead_by_between true d = omega arith
lead_by_between false d = omega arith

pub lead_ge : (d : ℕ) (p : Text) → d ≤ lead d p
lead_ge d p = (lead_by_between (stuffed d p) d).0

pub lead_le : (d : ℕ) (p : Text) → lead d p ≤ d + 1
lead_le d p = (lead_by_between (stuffed d p) d).1

pub width_le : (d : ℕ) (p : Text) → width d p ≤ d + 1 + length p
width_le d p = omega (arith, line_widths d p, lead_le d p)

-- stuffing goes by the first byte
pub lead_first : (d : ℕ) (p : Text) → 0 < length p → lead d p ≡ lead_by (stuffed_by d (get_or p 0 0)) d
lead_first d [] l = absurd (omega arith)
lead_first d (b ∷ p) l = refl

pub lead_take : (d n : ℕ) (t : Text) → 0 < n → lead d (take n t) ≡ lead d t
lead_take d zero t l = absurd (omega arith)
lead_take d (suc n) [] l = refl
lead_take d (suc n) (b ∷ t) l = refl

pub width_take : (d n : ℕ) (t : Text) → 0 < n → n ≤ length t → width d (take n t) ≡ lead d t + n
width_take d n t l h = omega (arith, line_widths d (take n t), lead_take d n t l, length-take-le n t h)

-- a longer piece is no less wide
pub wider : (d : ℕ) (t u : Text) → width d t ≤ width d (t ++ u)
wider d [] u = omega (arith, line_widths d [], line_widths d u, lead_ge d u)
wider d (b ∷ t) u = omega (arith, line_widths d (b ∷ t), line_widths d (b ∷ t ++ u), length-append t u)

pub take_on : (n : ℕ) (t u : Text) → length t ≤ n → take n (t ++ u) ≡ t ++ take (n - length t) u
take_on n t u l =
    let e : n ≡ length t + (n - length t) = omega arith in
    ap (λ k. take k (t ++ u)) e ∙ take-append-add t u (n - length t)

pub wider_take : (d n : ℕ) (t u : Text) → length t ≤ n → width d t ≤ width d (take n (t ++ u))
wider_take d n t u l = rw (take_on n t u l) (wider d t (take (n - length t) u))

pub width_front : (d n : ℕ) (t : Text) → width d (take n t) ≤ width d t
width_front d n t = rw take-append-drop at (wider d (take n t) (drop n t))

pub width_mono : (d n m : ℕ) (t : Text) → n ≤ m → width d (take n t) ≤ width d (take m t)
width_mono d n m t l = rw (take-take n m t l) at (width_front d n (take m t))
