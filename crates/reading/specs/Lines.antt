-- The lines of wire bytes, and which of them can be read.
use Rattle.std.specs.Prelude.{◌≡◌, ◌≤◌, Bool, true, false, not, ◌&&◌, List, ◌++◌, map, ◌==◌}
use Rattle.std.specs.List.{flat_map, AllByRecursion}
use Rattle.taker.specs.Paragraph.{barred, deepest}
use Rattle.folding.specs.Text.{Text}
use Rattle.folding.specs.WireLine.{crlf}
use Rattle.folding.specs.Reading.{Line, read_line, Kind, signed, flowed, fixed, kind}

-- the bytes of lines, each of them ended by CRLF
abbrev pub text_of : List Text → Text
text_of ls = flat_map (λ l. l ++ crlf) ls

-- there is no 00, 0A and 0D in it
abbrev pub Clean : Text → Type 0
Clean t = AllByRecursion (λ b. barred b ≡ false) t

-- a line that can be read, by its bytes before CRLF
pub record Readable (l : Text) : Type 0 where
  pub clean : Clean l
  pub shallow : (read_line l).depth ≤ deepest

-- each by its depth and its content
abbrev pub read_lines : List Text → List Line
read_lines ls = map read_line ls

abbrev pub is_flowed : Kind → Bool
is_flowed signed = false
is_flowed flowed = true
is_flowed fixed = false

abbrev pub is_signed : Kind → Bool
is_signed signed = true
is_signed flowed = false
is_signed fixed = false

-- a flowed line is continued by the next line if that has the same depth and is no signature line (RFC 3676, 4.1 Interpreting
-- Format=Flowed, 4.3 Usenet Signature Convention, 4.5 Quoting)
abbrev pub continued_by : Line → Line → Bool
continued_by l m = is_flowed (kind l.content) && l.depth == m.depth && not (is_signed (kind m.content))
