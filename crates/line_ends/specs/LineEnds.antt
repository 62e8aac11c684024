-- Line ends of a text, by the byte that stands before each.
use Rattle.std.specs.Prelude.{ℕ, ◌+◌, max, Bool, true, false, cond, not, ◌&&◌, List, [], ◌∷◌, ◌++◌, ◌==◌, count_by}
use Rattle.std.specs.List.{slice_split, starts_with}

-- a 0A, and 0D before it unless one stands there
abbrev pub with_cr : Bool → ℕ → List ℕ
with_cr true b = 13 ∷ b ∷ []
with_cr false b = b ∷ []

-- behind the byte p
abbrev pub crlf_behind : ℕ → List ℕ → List ℕ
crlf_behind p [] = []
crlf_behind p (b ∷ bs) = with_cr (b == 10 && not (p == 13)) b ++ crlf_behind b bs

-- the text with CRLF at each line end
abbrev pub with_crlf : List ℕ → List ℕ
with_crlf t = crlf_behind 0 t

-- the lines of a text: what stands between its LF, and behind the last
abbrev pub parts : List ℕ → List (List ℕ)
parts t = slice_split (λ b. b == 10) t

-- a line that begins with a dot
abbrev pub dotted : List ℕ → Bool
dotted l = starts_with (λ x y. x == y) l (46 ∷ [])

-- how wide a line is: its bytes but for 0D
abbrev pub breadth : List ℕ → ℕ
breadth l = count_by (λ b. not (b == 13)) l

abbrev pub one_if : Bool → ℕ
one_if true = 1
one_if false = 0

abbrev pub line_feeds : List ℕ → ℕ
line_feeds [] = 0
line_feeds (b ∷ bs) = one_if (b == 10) + line_feeds bs

-- 2E at a line beginning, behind the byte p; a text begins as if behind 0A
abbrev pub leading_dots : ℕ → List ℕ → ℕ
leading_dots p [] = 0
leading_dots p (b ∷ bs) = one_if (b == 46 && p == 10) + leading_dots b bs

-- the width of the line so far and of the widest line, one byte on; 0D and 0A do not count
abbrev pub on_byte : ℕ → ℕ → ℕ → ℕ × ℕ
on_byte width best b = cond (b == 10) (0, max width best) (cond (b == 13) (width, best) (width + 1, best))

abbrev pub widest : ℕ → ℕ → List ℕ → ℕ
widest width best [] = max width best
widest width best (b ∷ bs) = widest (on_byte width best b).0 (on_byte width best b).1 bs
