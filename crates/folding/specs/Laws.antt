-- What is proved of foldings of whole texts.
use Rattle.std.specs.Prelude.{◌≡◌, ℕ, ◌+◌, ◌<◌, ◌≤◌, true, false, ◌⊎◌, ◌↔◌, List, ◌++◌, length, replicate, Some, None}
use Rattle.std.specs.List.{flat_map, AllByRecursion}
use Rattle.folding.specs.Text.{Text, space, signature, ends_in_space, trimmed, settled, settled_behind}
use Rattle.folding.specs.WireLine.{lead, width}
use Rattle.folding.specs.Breaks.{Unbroken}
use Rattle.folding.specs.Folded.{Folded, one_line, pieces, after_lines}
use Rattle.folding.specs.Relation.{Steps, Folds}
use Rattle.folding.specs.Folding.{folding}

-- a text is its trimmed text and then spaces, and in no other way a text that does not end in a space and then spaces
pub record Trims (t : Text) : Type 0 where
  pub no_space : ends_in_space (trimmed t) ≡ false
  pub spaces : ℕ
  pub rest : t ≡ trimmed t ++ replicate spaces space
  pub only : (p : Text) (n : ℕ) → ends_in_space p ≡ false → t ≡ p ++ replicate n space → p ≡ trimmed t

abbrev pub TrimmedTexts : Type 0
TrimmedTexts = (t : Text) → Trims t

-- the bytes before the piece and those of the piece make the width
abbrev pub LineWidths : Type 0
LineWidths = (d : ℕ) (p : Text) → width d p ≡ lead d p + length p

-- the function gives the folding that the rules give, and none where they give none
pub record Given (d w : ℕ) (t : Text) : Type 0 where
  pub some : (f : Folded) → folding d w t ≡ Some f ↔ Folds d w t f
  pub none : folding d w t ≡ None ↔ ((f : Folded) → Folds d w t f → ⊥)

abbrev pub GivenByRules : Type 0
GivenByRules = (d w : ℕ) (t : Text) → Given d w t

-- at depths up to 100 the steps alone give the same: 2D 2D 20 and the empty text are no exceptions
abbrev pub GivenBySteps : Type 0
GivenBySteps = (d w : ℕ) (t : Text) (f : Folded) → d ≤ 100 → folding d w t ≡ Some f ↔ Steps d w t f

-- a line that is not the last: it is flowed, not empty, and no signature line
pub record Flowed (p : Text) : Type 0 where
  pub ends : ends_in_space p ≡ true
  pub some : 0 < length p
  pub unsigned : p ≡ signature → ⊥

-- a line has width at most w, or no break stands in it: a line before the last then ends at its first break, and in the last
-- none is left
abbrev pub FitsOrUnbroken : ℕ → ℕ → Text → Type 0
FitsOrUnbroken d w p = (width d p ≤ w) ⊎ Unbroken p

-- the pieces of a folding joined are the text, every line but the last is flowed, the last ends in a space only if the text does,
-- and no line is wider than it must be
pub record Sound (d w : ℕ) (t : Text) (f : Folded) : Type 0 where
  pub joins : flat_map (λ p. p) (pieces f) ≡ t
  pub flowed : AllByRecursion Flowed f.flowed
  pub last : ends_in_space f.last ≡ ends_in_space t
  pub widths : AllByRecursion (FitsOrUnbroken d w) (pieces f)

abbrev pub SoundFoldings : Type 0
SoundFoldings = (d w : ℕ) (t : Text) (f : Folded) → folding d w t ≡ Some f → Sound d w t f

-- no line is wider than 998
abbrev pub ShortLines : Type 0
ShortLines = (d w : ℕ) (t : Text) (f : Folded) → d ≤ 100 → w ≤ 998 → folding d w t ≡ Some f → AllByRecursion (λ p. width d p ≤ 998) (pieces f)

-- the last line ends in a space only as 2D 2D 20, and a line is 2D 2D 20 only where that is the whole settled text
pub record SignedAlone (t : Text) (f : Folded) : Type 0 where
  pub ends : ends_in_space f.last ≡ true → settled t ≡ signature
  pub signed : AllByRecursion (λ p. p ≡ signature → settled t ≡ signature) (pieces f)
  pub alone : settled t ≡ signature → f ≡ one_line signature

abbrev pub SignaturesAlone : Type 0
SignaturesAlone = (d w : ℕ) (t : Text) (f : Folded) → folding d w (settled t) ≡ Some f → SignedAlone t f

-- all lines but the last stay, however a text goes on; and where a longer text has a folding, so has the text
pub record Keeps (d w : ℕ) (t : Text) (g : Folded) : Type 0 where
  pub shorter : Folded
  pub folds : folding d w (trimmed t) ≡ Some shorter
  pub more : List Text
  pub begins : g.flowed ≡ shorter.flowed ++ more

abbrev pub LinesStay : Type 0
LinesStay = (d w : ℕ) (t u : Text) (g : Folded) → d ≤ 100 → folding d w (trimmed (t ++ u)) ≡ Some g → Keeps d w t g

-- what is held of a text, its last line and the spaces behind it, folds on as the text does
pub record FoldsOn (d w : ℕ) (t held : Text) (ps : List Text) : Type 0 where
  pub so_far : (u : Text) → folding d w (trimmed (t ++ u)) ≡ after_lines ps (folding d w (trimmed (held ++ u)))
  pub at_end : (u : Text) → folding d w (settled (t ++ u)) ≡ after_lines ps (folding d w (settled_behind (length ps) (held ++ u)))

abbrev pub HeldFoldsOn : Type 0
HeldFoldsOn = (d w : ℕ) (t : Text) (n : ℕ) (f : Folded) → d ≤ 100 →
    t ≡ trimmed t ++ replicate n space → folding d w (trimmed t) ≡ Some f → FoldsOn d w t (f.last ++ replicate n space) f.flowed
