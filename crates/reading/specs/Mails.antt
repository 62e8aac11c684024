-- Worked examples.
use Rattle.std.specs.Prelude.{◌≡◌, List, [], ◌∷◌, ◌++◌, replicate, Ok, Err, codes}
use Rattle.fault.specs.declared.cause.Cause.TheVariants.{TooDeep, BarredByte, Incomplete}
use Rattle.folding.specs.WireLine.{quote_mark, crlf}
use Rattle.reading.specs.Paragraphs.{Paragraph}
use Rattle.reading.specs.Events.{opened, told}
use Rattle.reading.specs.Machine.{start}
use Rattle.reading.specs.Runs.{Run, run, read}

-- paragraphs handed on, each with its end
abbrev pub gives : List Paragraph → Run
gives ps = record { handed = told ps; left = Ok start }

pub record Mails : Type 0 where
  -- a flowed line is continued by the next
  pub continued : run start (codes "> a " ++ crlf ++ codes "> b" ++ crlf) ≡ gives (record { depth = 1; text = codes "a b" } ∷ [])
  -- but not by a line of another depth
  pub deeper : run start (codes "> a " ++ crlf ++ codes ">> b" ++ crlf)
      ≡ gives (record { depth = 1; text = codes "a " } ∷ record { depth = 2; text = codes "b" } ∷ [])
  -- nor by a signature line
  pub signature : run start (codes "a " ++ crlf ++ codes "-- " ++ crlf)
      ≡ gives (record { depth = 0; text = codes "a " } ∷ record { depth = 0; text = codes "-- " } ∷ [])
  -- the stuffing is dropped before the line is looked at for a trailing space
  pub stuffing : run start (codes " " ++ crlf) ≡ gives (record { depth = 0; text = [] } ∷ [])
  -- a paragraph that is still open is ended by the finish
  pub still_open : read (codes "  " ++ crlf) ≡ Ok (told (record { depth = 0; text = codes " " } ∷ []))
  -- a line of quote marks alone is inside a line
  pub inside : read (codes ">") ≡ Err Incomplete
  pub too_deep : run start (replicate 101 quote_mark) ≡ record { handed = []; left = Err TooDeep }
  -- a refusal at the first byte of a line opens nothing; on an empty line the open goes out at 0D, and stands
  pub first_byte : run start (0x00 ∷ []) ≡ record { handed = []; left = Err BarredByte }
  pub empty_line : run start (0x0D ∷ 0x00 ∷ []) ≡ record { handed = opened 0 ∷ []; left = Err BarredByte }
