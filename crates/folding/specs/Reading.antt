-- How a line is read (RFC 3676, 4.1 Interpreting Format=Flowed), as far as joining a folding again needs it.
use Rattle.std.specs.Prelude.{◌≡◌, ℕ, ◌+◌, cond, [], ◌∷◌, Some, ◌==◌}
use Rattle.std.specs.Str.{bytes_eq}
use Rattle.std.specs.List.{flat_map, AllByRecursion}
use Rattle.folding.specs.Text.{Text, space, signature, ends_in_space, settled}
use Rattle.folding.specs.WireLine.{quote_mark, bare_line}
use Rattle.folding.specs.Folded.{Folded, pieces}
use Rattle.folding.specs.Folding.{folding}

pub record Line : Type 0 where
  pub depth : ℕ
  pub content : Text

-- one space is dropped
abbrev pub unstuffed : Text → Text
unstuffed [] = []
unstuffed (b ∷ t) = cond (b == space) t (b ∷ t)

abbrev pub deeper : Line → Line
deeper l = record { depth = l.depth + 1; content = l.content }

-- the bytes before CRLF: the quote marks are counted, then the stuffing goes, and what is left is the content
abbrev pub read_line : Text → Line
read_line [] = record { depth = 0; content = [] }
read_line (b ∷ t) = cond (b == quote_mark) (deeper (read_line t)) (record { depth = 0; content = unstuffed (b ∷ t) })

-- a signature line is neither flowed nor fixed (4.3 Usenet Signature Convention)
pub data Kind : Type 0 where
  signed : Kind
  flowed : Kind
  fixed : Kind

abbrev pub kind : Text → Kind
kind c = cond (bytes_eq c signature) signed (cond (ends_in_space c) flowed fixed)

-- each line of a folding gives its depth and its piece back, each but the last is flowed, the last is fixed, or is a signature
-- line and the only one; and the contents joined are the settled text
pub record ReadsBack (d : ℕ) (t : Text) (f : Folded) : Type 0 where
  pub each : AllByRecursion (λ p. read_line (bare_line d p) ≡ record { depth = d; content = p }) (pieces f)
  pub flowing : AllByRecursion (λ p. kind p ≡ flowed) f.flowed
  pub last : kind f.last ≡ flowed → ⊥
  pub alone : kind f.last ≡ signed → f.flowed ≡ []
  pub text : flat_map (λ p. p) (pieces f) ≡ settled t

abbrev pub FoldingsReadBack : Type 0
FoldingsReadBack = (d w : ℕ) (t : Text) (f : Folded) → folding d w (settled t) ≡ Some f → ReadsBack d t f
