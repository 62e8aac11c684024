-- The wire line of a piece of text at a quote depth, and its width.
use Rattle.std.specs.Prelude.{ℕ, ◌+◌, Bool, true, false, ◌||◌, List, [], ◌∷◌, ◌++◌, length, replicate, ◌==◌, nat_le}
use Rattle.std.specs.List.{flat_map}
use Rattle.folding.specs.Text.{Text, space}

-- a line of quote depth d begins with d of them (RFC 3676, 4.5 Quoting)
abbrev pub quote_mark : ℕ
quote_mark = 0x3E

abbrev pub crlf : Text
crlf = 0x0D ∷ 0x0A ∷ []

-- whether a piece that begins with the byte b is stuffed at depth d (RFC 3676, 4.4 Space-Stuffing). RFC 3676 demands it before
-- a space, before an unquoted quote mark and before "From ", and allows it elsewhere; here every quoted line that is not empty is
-- stuffed too, and "From " is not
abbrev pub stuffed_by : ℕ → ℕ → Bool
stuffed_by d b = nat_le 1 d || b == space || b == quote_mark

-- an empty piece is not stuffed
abbrev pub stuffed : ℕ → Text → Bool
stuffed d [] = false
stuffed d (b ∷ p) = stuffed_by d b

abbrev pub stuffing : Bool → Text
stuffing true = space ∷ []
stuffing false = []

-- the line's bytes before CRLF
abbrev pub bare_line : ℕ → Text → Text
bare_line d p = replicate d quote_mark ++ (stuffing (stuffed d p) ++ p)

abbrev pub wire_line : ℕ → Text → Text
wire_line d p = bare_line d p ++ crlf

abbrev pub wire_lines : ℕ → List Text → Text
wire_lines d ps = flat_map (wire_line d) ps

-- the width of a line counts its bytes before CRLF
unfoldable pub width : ℕ → Text → ℕ
width d p = length (bare_line d p)

-- how many of them stand before the piece
abbrev pub lead_by : Bool → ℕ → ℕ
lead_by true d = d + 1
lead_by false d = d

abbrev pub lead : ℕ → Text → ℕ
lead d p = lead_by (stuffed d p) d
