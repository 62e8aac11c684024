-- Transparency, RFC 5321 section 4.5.2, over the lines of a whole text.
use Rattle.std.specs.Prelude.{ℕ, cond, List, [], ◌∷◌, ◌++◌, map, ◌==◌, ◌≢◌}
use Rattle.std.specs.List.{AllByRecursion}

abbrev pub crlf : List ℕ
crlf = 13 ∷ 10 ∷ []

-- a line of one 2E
abbrev pub end_mark : List ℕ
end_mark = 46 ∷ crlf

-- a line has no 0D and no 0A in it
abbrev pub Clean : List ℕ → Type 0
Clean l = AllByRecursion (λ b. (b ≢ 13) × (b ≢ 10)) l

-- the text of lines, each ended by CRLF
abbrev pub text_of : List (List ℕ) → List ℕ
text_of [] = []
text_of (l ∷ ls) = l ++ (crlf ++ text_of ls)

-- a line that begins with 2E goes out with one more in front
abbrev pub stuffed_line : List ℕ → List ℕ
stuffed_line [] = []
stuffed_line (b ∷ l) = cond (b == 46) (46 ∷ b ∷ l) (b ∷ l)

-- what goes out for a text's lines and the close behind them
abbrev pub stuffed : List (List ℕ) → List ℕ
stuffed ls = text_of (map stuffed_line ls) ++ end_mark
