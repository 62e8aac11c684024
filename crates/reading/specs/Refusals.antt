-- Which bytes are refused, and why.
use Rattle.std.specs.Prelude.{◌≡◌, ℕ, ◌<◌, ◌⊎◌, ◌↔◌, List, [], ◌∷◌, ◌++◌, length, replicate, Err, ◌≢◌}
use Rattle.std.specs.List.{AllByRecursion}
use Rattle.fault.specs.declared.cause.Cause.{Cause}
use Rattle.fault.specs.declared.cause.Cause.TheVariants.{TooDeep, BarredByte, Unpaired, Incomplete}
use Rattle.taker.specs.Paragraph.{deepest}
use Rattle.folding.specs.Text.{Text}
use Rattle.folding.specs.WireLine.{quote_mark}
use Rattle.reading.specs.Lines.{Readable, text_of}
use Rattle.reading.specs.Machine.{start}
use Rattle.reading.specs.Runs.{run, read}

-- the bytes of a line so far, behind which the next byte is refused with a cause
pub data Refused : Text → ℕ → Cause → Type 0 where
  -- a quote mark more than the greatest depth
  too_deep : Refused (replicate deepest quote_mark) quote_mark TooDeep
  -- 00, also after 0D
  barred : {l : Text} → Readable l → Refused l 0x00 BarredByte
  barred_after_cr : {l : Text} → Readable l → Refused (l ++ 0x0D ∷ []) 0x00 BarredByte
  -- 0A not after 0D
  no_cr : {l : Text} → Readable l → Refused l 0x0A Unpaired
  -- 0D and no 0A after it
  no_lf : {l : Text} {b : ℕ} → Readable l → (b ≢ 0x00) → (b ≢ 0x0A) → Refused (l ++ 0x0D ∷ []) b Unpaired

-- whole lines, the beginning of another, and a byte that is refused
pub record FirstRefused (bs : List ℕ) (c : Cause) : Type 0 where
  pub lines : List Text
  pub readable : AllByRecursion Readable lines
  pub line : Text
  pub byte : ℕ
  pub rest : List ℕ
  pub refused : Refused line byte c
  pub is : bs ≡ text_of lines ++ (line ++ byte ∷ rest)

-- the bytes of a line so far, with its 0D or without
pub data Begun : Text → Type 0 where
  inside : {l : Text} → Readable l → Begun l
  after_cr : {l : Text} → Readable l → Begun (l ++ 0x0D ∷ [])

-- whole lines and the beginning of another
pub record Unfinished (bs : List ℕ) : Type 0 where
  pub lines : List Text
  pub readable : AllByRecursion Readable lines
  pub line : Text
  pub begun : Begun line
  pub some : 0 < length line
  pub is : bs ≡ text_of lines ++ line

-- bytes are refused for these reasons and no others, and the finish only inside a line
pub record RefusedWith (bs : List ℕ) (c : Cause) : Type 0 where
  pub bytes : (run start bs).left ≡ Err c ↔ FirstRefused bs c
  pub finish : read bs ≡ Err c ↔ FirstRefused bs c ⊎ ((c ≡ Incomplete) × Unfinished bs)

abbrev pub Refusals : Type 0
Refusals = (bs : List ℕ) (c : Cause) → RefusedWith bs c
