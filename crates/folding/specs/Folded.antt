-- A folding: the lines that a paragraph's text is sent as.
use Rattle.std.specs.Prelude.{ℕ, List, [], ◌∷◌, ◌++◌, Some, None, Option}
use Rattle.folding.specs.Text.{Text}
use Rattle.folding.specs.WireLine.{wire_lines}

-- each line by its piece of the text; every line but the last is flowed: it ends in a space (RFC 3676, 4.1 Interpreting
-- Format=Flowed)
pub record Folded : Type 0 where
  pub flowed : List Text
  pub last : Text

abbrev pub one_line : Text → Folded
one_line t = record { flowed = []; last = t }

abbrev pub line_before : Text → Folded → Folded
line_before p f = record { flowed = p ∷ f.flowed; last = f.last }

abbrev pub pieces : Folded → List Text
pieces f = f.flowed ++ f.last ∷ []

-- lines and then a folding, if there is one
abbrev pub after_lines : List Text → Option Folded → Option Folded
after_lines ps None = None
after_lines ps (Some f) = Some (record { flowed = ps ++ f.flowed; last = f.last })

-- the wire bytes of a folding, if there is one
abbrev pub wired : ℕ → Option Folded → Option Text
wired d None = None
wired d (Some f) = Some (wire_lines d (pieces f))
