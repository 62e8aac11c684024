-- What is proved of the folding byte by byte.
use Rattle.std.specs.Prelude.{◌≡◌, ℕ, ◌≤◌, false, ◌↔◌, [], ◌∷◌, ◌++◌, replicate, Some, None, Option, MatchOption}
use Rattle.std.specs.Option.{option_map}
use Rattle.folding.specs.Text.{Text, space, ends_in_space, trimmed, settled, settled_behind}
use Rattle.folding.specs.WireLine.{width}
use Rattle.folding.specs.Breaks.{Unbroken}
use Rattle.folding.specs.Folded.{Folded}
use Rattle.folding.specs.Folding.{folding}
use Rattle.folding.specs.Held.{Held, Valid}
use Rattle.folding.specs.Incremental.{Progress, start, and_then, put, put_all, so_far, ending, ended}

-- lines sent and what is held stand for a text: every line but the last of the folding of the text through its last byte that is
-- no space was sent, that last line is held, and the spaces behind it are counted
pub record Tracks (d w : ℕ) (t : Text) (a : Progress) : Type 0 where
  pub folds : folding d w (trimmed t) ≡ Some (so_far a)
  pub text : t ≡ trimmed t ++ replicate a.held.spaces space
  pub valid : Valid d w a.held

abbrev pub StartTracks : Type 0
StartTracks = (d w : ℕ) → Tracks d w [] start

-- after an accepted byte they stand for the text with it; a byte is refused where the text through it, settled, has no folding
abbrev pub BytesTrack : Type 0
BytesTrack = (d w : ℕ) (t : Text) (a : Progress) (b : ℕ) → d ≤ 100 → w ≤ 998 → Tracks d w t a →
    MatchOption (put d w a.held b) (folding d w (settled (t ++ b ∷ [])) ≡ None) (λ s. Tracks d w (t ++ b ∷ []) (and_then a s))

-- the last line at the end is what the held text settles to
abbrev pub EndsSettle : Type 0
EndsSettle = (n : ℕ) (h : Held) → ends_in_space h.line ≡ false →
    ending n h ≡ settled_behind n (h.line ++ replicate h.spaces space)

-- the end completes the folding of the settled text
abbrev pub EndsTrack : Type 0
EndsTrack = (d w : ℕ) (t : Text) (a : Progress) → d ≤ 100 → Tracks d w t a → folding d w (settled t) ≡ Some (ended a)

-- so byte by byte the same comes out as from the whole text: the lines sent are every line but the last of the folding of the text
-- through its last byte that is no space, the end completes the folding of the settled text, and where there is none a byte is refused
pub record Agrees (d w : ℕ) (t : Text) (o : Option Progress) : Type 0 where
  pub sent : option_map so_far o ≡ folding d w (trimmed t)
  pub end : option_map ended o ≡ folding d w (settled t)

abbrev pub TextsAgree : Type 0
TextsAgree = (d w : ℕ) (t : Text) → d ≤ 100 → w ≤ 998 → Agrees d w t (put_all d w start t)

-- the byte b cannot follow a line: it is no space, and the line is 998 wide or more and has no break
pub record FullLine (d b : ℕ) (p : Text) : Type 0 where
  pub plain : b ≡ space → ⊥
  pub unbroken : Unbroken p
  pub wide : 998 ≤ width d p

-- a byte is refused exactly where the text through it, settled, has no folding, and that is told from the held line alone
pub record Refused (d w : ℕ) (t : Text) (a : Progress) (b : ℕ) : Type 0 where
  pub by_folding : put d w a.held b ≡ None ↔ folding d w (settled (t ++ b ∷ [])) ≡ None
  pub by_line : put d w a.held b ≡ None ↔ FullLine d b a.held.line

abbrev pub RefusedBytes : Type 0
RefusedBytes = (d w : ℕ) (t : Text) (a : Progress) (b : ℕ) → d ≤ 100 → w ≤ 998 → Tracks d w t a → Refused d w t a b

-- the same of foldings: a byte more leaves none exactly where it cannot follow the last line so far
abbrev pub Refusals : Type 0
Refusals = (d w : ℕ) (t : Text) (f : Folded) (b : ℕ) → d ≤ 100 → w ≤ 998 → folding d w (trimmed t) ≡ Some f →
    folding d w (settled (t ++ b ∷ [])) ≡ None ↔ FullLine d b f.last
