-- The width of a line and its stuffing, by its first byte.
use Rattle.std.proofs.Common.{◌≡◌, ℕ, ◌+◌, [], ◌∷◌, length, Some, None, sym, ap, ◌∙◌, arith}
use Rattle.std.specs.List.{slice_get}
use Rattle.folding.specs.Text.{Text}
use Rattle.folding.specs.WireLine.{stuffed_by, lead_by, width}
use Rattle.folding.proofs.Widths.{line_widths, lead_first}
use Rattle.folding.proofs.Constructors.{same_some, some_none}

-- the width of a line, by its first byte if it has one
pub line_width : (d : ℕ) (p : Text) (c : ℕ) → Some c ≡ slice_get p 0 → lead_by (stuffed_by d c) d + length p ≡ width d p
line_width d [] c e = absurd (some_none e)
line_width d (a ∷ p) c e =
    ap (λ (x : ℕ). lead_by (stuffed_by d x) d + length (a ∷ p)) (same_some e)
    ∙ ap (λ (n : ℕ). n + length (a ∷ p)) (sym (lead_first d (a ∷ p) (omega arith)))
    ∙ sym (line_widths d (a ∷ p))

pub width_empty : (d : ℕ) (p : Text) → None ≡ slice_get p 0 → d ≡ width d p
width_empty d [] e = omega (arith, line_widths d [])
width_empty d (a ∷ p) e = absurd (some_none (sym e))
