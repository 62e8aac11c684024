-- The lines of a plain text.
use Rattle.std.specs.Prelude.{◌≡◌, ℕ, ◌+◌, Bool, false, cond, not, ◌&&◌, List, [], ◌∷◌, ◌++◌, map, take, drop, ◌==◌, ◌≢◌}
use Rattle.std.specs.List.{prefix_len, AllByRecursion}
use Rattle.folding.specs.Text.{Text}

abbrev pub line_feed : ℕ
line_feed = 0x0A

abbrev pub carriage_return : ℕ
carriage_return = 0x0D

-- a byte in front of the first line
abbrev pub onto : ℕ → List Text → List Text
onto b [] = (b ∷ []) ∷ []
onto b (l ∷ ls) = (b ∷ l) ∷ ls

-- a text cut behind each 0A: its lines with their ends
abbrev pub cut : Text → List Text
cut [] = []
cut (b ∷ t) = cond (b == line_feed) ((b ∷ []) ∷ cut t) (onto b (cut t))

-- LF or CRLF, and nothing behind it
abbrev pub is_end : Text → Bool
is_end [] = false
is_end (b ∷ []) = b == line_feed
is_end (b ∷ c ∷ []) = b == carriage_return && c == line_feed
is_end (b ∷ c ∷ d ∷ t) = false

-- a line without its end; a CR that stands elsewhere is text
abbrev pub line_text : Text → Text
line_text [] = []
line_text (b ∷ t) = cond (is_end (b ∷ t)) [] (b ∷ line_text t)

-- the texts of the lines
abbrev pub text_lines : Text → List Text
text_lines t = map line_text (cut t)

-- how many bytes stand before the first 0A
abbrev pub before_feed : Text → ℕ
before_feed t = prefix_len (λ b. not (b == line_feed)) t

-- through the first 0A, or all where there is none
abbrev pub first_line : Text → Text
first_line t = take (before_feed t + 1) t

abbrev pub behind_line : Text → Text
behind_line t = drop (before_feed t + 1) t

abbrev pub NoFeed : Text → Type 0
NoFeed t = AllByRecursion (λ b. (b == line_feed) ≡ false) t

abbrev pub ends_in : ℕ → Text → Bool
ends_in x [] = false
ends_in x (b ∷ []) = b == x
ends_in x (b ∷ c ∷ t) = ends_in x (c ∷ t)

-- a text and the texts of its lines: a line ends with LF or CRLF, and only the last may lack its end
pub data Lines : Text → List Text → Type 0 where
  none : Lines [] []
  unended : {c : Text} → (c ≢ []) → NoFeed c → Lines c (c ∷ [])
  by_crlf : {c t u : Text} {ls : List Text} → t ≡ c ++ carriage_return ∷ line_feed ∷ u → NoFeed c → Lines u ls → Lines t (c ∷ ls)
  by_lf : {c t u : Text} {ls : List Text} → t ≡ c ++ line_feed ∷ u → NoFeed c → ends_in carriage_return c ≡ false → Lines u ls → Lines t (c ∷ ls)

-- a text has these lines and no other
pub record CutSo (t : Text) : Type 0 where
  pub cut_so : Lines t (text_lines t)
  pub only_so : (ls : List Text) → Lines t ls → ls ≡ text_lines t
