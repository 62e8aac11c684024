-- What is held of the text of an open paragraph between two bytes.
use Rattle.std.specs.Prelude.{◌≡◌, ℕ, ◌≤◌, Bool, false, not, ◌&&◌, [], ◌∷◌, ◌++◌, replicate, is_some, Some, None, Option, nat_le}
use Rattle.std.specs.Str.{bytes_eq}
use Rattle.folding.specs.Text.{Text, space, dashes, ends_in_space}
use Rattle.folding.specs.WireLine.{width}
use Rattle.folding.specs.Breaks.{Unbroken, LastBreak}

pub record Held : Type 0 where
  -- the last line of the folding so far
  pub line : Text
  -- the length of its longest piece that ends at a break
  pub last_break : Option ℕ
  -- the spaces behind it, which count as text only once another byte follows
  pub spaces : ℕ

abbrev pub nothing : Held
nothing = record { line = []; last_break = None; spaces = 0 }

-- the last break of a line is known, and a line that has one fits
abbrev pub KnownBreak : ℕ → ℕ → Text → Option ℕ → Type 0
KnownBreak d w t None = Unbroken t
KnownBreak d w t (Some n) = LastBreak t n × (width d t ≤ w)

-- what holds of what is held after every byte
pub record Valid (d w : ℕ) (h : Held) : Type 0 where
  pub no_space : ends_in_space h.line ≡ false
  pub known : KnownBreak d w h.line h.last_break

-- all that is held, and a byte behind it
abbrev pub held_with : Held → ℕ → Text
held_with h b = h.line ++ (replicate h.spaces space ++ b ∷ [])

abbrev pub is_dashes : Held → Bool
is_dashes h = bytes_eq h.line dashes

-- nothing but a space can follow: the line is 998 wide or more, and has no break
abbrev pub full : ℕ → Held → Bool
full d h = not (is_some h.last_break) && nat_le 998 (width d h.line)
