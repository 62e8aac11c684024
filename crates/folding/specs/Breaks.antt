-- Where a text may be broken into lines.
use Rattle.std.specs.Prelude.{◌≡◌, ℕ, ◌<◌, ◌≤◌, true, length, take}
use Rattle.folding.specs.Text.{Text, signature, ends_in_space}
use Rattle.folding.specs.WireLine.{width}

-- a break may stand behind the first n bytes of a text: behind a space, which stays text (RFC 3676, 4.2 Generating
-- Format=Flowed: a soft line break is a space and CRLF; DelSp=no), with text after it, and not so that the piece is 2D 2D 20,
-- which would be read as a signature line (4.3 Usenet Signature Convention)
pub record Break (t : Text) (n : ℕ) : Type 0 where
  pub behind_space : ends_in_space (take n t) ≡ true
  pub before_text : n < length t
  pub unsigned : take n t ≡ signature → ⊥

abbrev pub Unbroken : Text → Type 0
Unbroken t = (n : ℕ) → Break t n → ⊥

pub record FirstBreak (t : Text) (n : ℕ) : Type 0 where
  pub here : Break t n
  pub none_before : (j : ℕ) → j < n → Break t j → ⊥

pub record LastBreak (t : Text) (n : ℕ) : Type 0 where
  pub here : Break t n
  pub none_behind : (j : ℕ) → n < j → Break t j → ⊥

-- the longest piece that ends at a break and makes a line of width at most w
pub record LongestFitting (d w : ℕ) (t : Text) (n : ℕ) : Type 0 where
  pub here : Break t n
  pub fits : width d (take n t) ≤ w
  pub wider_behind : (j : ℕ) → n < j → Break t j → w < width d (take j t)

abbrev pub NoneFitting : ℕ → ℕ → Text → Type 0
NoneFitting d w t = (j : ℕ) → Break t j → w < width d (take j t)
