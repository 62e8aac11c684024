-- Worked examples at width 20.
use Rattle.std.specs.Prelude.{◌≡◌, ◌++◌, Some, codes}
use Rattle.folding.specs.Text.{Text}
use Rattle.folding.specs.WireLine.{crlf, width}
use Rattle.folding.specs.Folding.{wire}

abbrev pub fox : Text
fox = codes "The quick brown fox jumps"

abbrev pub dashed : Text
dashed = codes "-- abcdefghijklmnopqrst"

pub record Mails : Type 0 where
  pub folded : wire 0 20 fox ≡ Some (codes "The quick brown fox " ++ crlf ++ codes "jumps" ++ crlf)
  pub quoted : wire 1 20 fox ≡ Some (codes "> The quick brown " ++ crlf ++ codes "> fox jumps" ++ crlf)
  -- the signature separator stays as it is; two dashes and two spaces are none, and are trimmed
  pub signature : wire 0 20 (codes "-- ") ≡ Some (codes "-- " ++ crlf)
  pub dashes : wire 0 20 (codes "--  ") ≡ Some (codes "--" ++ crlf)
  -- no line is broken behind it, however wide
  pub unbroken : wire 0 20 dashed ≡ Some (dashed ++ crlf)
  pub unbroken_width : width 0 dashed ≡ 23
  -- a quote mark that is text is stuffed, and so is every quoted line
  pub stuffed : wire 0 20 (codes "> hi") ≡ Some (codes " > hi" ++ crlf)
  pub stuffed_quoted : wire 1 20 (codes "> hi") ≡ Some (codes "> > hi" ++ crlf)
