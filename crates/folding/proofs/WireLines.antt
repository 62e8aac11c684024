-- The wire bytes of lines in a row.
use Rattle.std.proofs.Common.{◌≡◌, ℕ, List, [], ◌∷◌, ◌++◌, Some, None, Option, sym, refl, ap, ◌∙◌, append_assoc}
use Rattle.std.specs.Option.{option_map}
use Rattle.folding.specs.Text.{Text}
use Rattle.folding.specs.WireLine.{wire_line, wire_lines}
use Rattle.folding.specs.Folded.{Folded, after_lines, pieces, wired}

pub wire_lines_append : (d : ℕ) (ps qs : List Text) → wire_lines d (ps ++ qs) ≡ wire_lines d ps ++ wire_lines d qs
wire_lines_append d [] qs = refl
wire_lines_append d (p ∷ ps) qs =
    ap (λ (t : Text). wire_line d p ++ t) (wire_lines_append d ps qs)
    ∙ sym (append_assoc (wire_line d p) (wire_lines d ps) (wire_lines d qs))

-- lines and then a folding
pub wired_after : (d : ℕ) (ps : List Text) (o : Option Folded) → wired d (after_lines ps o) ≡ option_map (λ t. wire_lines d ps ++ t) (wired d o)
wired_after d ps None = refl
wired_after d ps (Some f) =
    ap (λ (l : List Text). Some (wire_lines d l)) (append_assoc ps f.flowed (f.last ∷ [])) ∙ ap Some (wire_lines_append d ps (pieces f))
