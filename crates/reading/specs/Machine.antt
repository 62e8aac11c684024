-- A reader byte by byte: what each undone byte hands on, where it leads, and what is refused.
use Rattle.std.specs.Prelude.{ℕ, zero, suc, ◌+◌, Bool, true, false, cond, ◌&&◌, List, [], ◌∷◌, ◌++◌, Some, None, Ok, Err, Option, Result, ◌==◌, nat_lt}
use Rattle.std.specs.Str.{bytes_eq}
use Rattle.fault.specs.declared.cause.Cause.{Cause}
use Rattle.fault.specs.declared.cause.Cause.TheVariants.{TooDeep, BarredByte, Unpaired, Incomplete}
use Rattle.taker.specs.Paragraph.{deepest}
use Rattle.folding.specs.Text.{Text, space, signature}
use Rattle.folding.specs.WireLine.{quote_mark}
use Rattle.reading.specs.Events.{Event, opened, text, ended, texts}

-- the content of a line so far
pub data Content : Type 0 where
  -- a beginning of 2D 2D 20, the empty one too: it is held
  held : Text → Content
  -- any other: it was handed on; whether its last byte is a space
  passed : Bool → Content

pub data State : Type 0 where
  -- behind n quote marks and nothing else of a line; the depth of the paragraph that is open, if any, comes first
  in_marks : Option ℕ → ℕ → State
  -- in a line of a settled depth: that depth, whether its paragraph was open before the line, and its content so far
  in_content : ℕ → Bool → Content → State
  -- the same, behind the line's 0D
  behind_cr : ℕ → Bool → Content → State

-- at a line beginning
abbrev pub at_line : Option ℕ → State
at_line o = in_marks o 0

-- before all bytes
abbrev pub start : State
start = at_line None

-- what a byte comes to: what it hands on and the state then, or a refusal
pub data Step : Type 0 where
  hands : List Event → State → Step
  refuses : Cause → Step

-- whether the first text is a beginning of the second
abbrev pub beginning_of : Text → Text → Bool
beginning_of [] s = true
beginning_of (b ∷ t) [] = false
beginning_of (b ∷ t) (c ∷ s) = b == c && beginning_of t s

-- a byte more of content: what is held goes out with it, if the content is no beginning of 2D 2D 20 any more
abbrev pub content_byte : ℕ → Bool → Content → ℕ → Step
content_byte d k (held h) b =
    cond (beginning_of (h ++ b ∷ []) signature)
    (hands [] (in_content d k (held (h ++ b ∷ []))))
    (hands (texts (h ++ b ∷ [])) (in_content d k (passed (b == space))))
content_byte d k (passed s) b = hands (text b ∷ []) (in_content d k (passed (b == space)))

-- a byte of a line whose depth is settled
abbrev pub line_byte : ℕ → Bool → Content → ℕ → Step
line_byte d k c b =
    cond (b == 0) (refuses BarredByte)
    (cond (b == 0x0A) (refuses Unpaired)
    (cond (b == 0x0D) (hands [] (behind_cr d k c))
    (content_byte d k c b)))

-- events before those of a step, which hands on nothing if it is a refusal
abbrev pub with_before : List Event → Step → Step
with_before es (hands fs s) = hands (es ++ fs) s
with_before es (refuses c) = refuses c

-- where the depth d of a line is settled: whether the paragraph that is open is of that depth, and what is handed on otherwise
abbrev pub goes_on : Option ℕ → ℕ → Bool
goes_on None d = false
goes_on (Some e) d = e == d

abbrev pub settling : Option ℕ → ℕ → List Event
settling None d = opened d ∷ []
settling (Some e) d = cond (e == d) [] (ended ∷ opened d ∷ [])

-- the first byte of a line behind its quote marks: a space there is dropped
abbrev pub first_byte : Option ℕ → ℕ → ℕ → Step
first_byte o d b =
    with_before (settling o d)
    (cond (b == space) (hands [] (in_content d (goes_on o d) (held []))) (line_byte d (goes_on o d) (held []) b))

-- the 0A of a line: a flowed line leaves its paragraph open, any other ends it; a signature line is a paragraph of its own
abbrev pub line_end : ℕ → Bool → Content → Step
line_end d k (passed true) = hands [] (at_line (Some d))
line_end d k (passed false) = hands (ended ∷ []) (at_line None)
line_end d k (held h) =
    hands (cond (bytes_eq h signature && k) (ended ∷ opened d ∷ []) [] ++ (texts h ++ ended ∷ [])) (at_line None)

abbrev pub step : State → ℕ → Step
step (in_marks o n) b =
    cond (b == quote_mark) (cond (nat_lt n deepest) (hands [] (in_marks o (n + 1))) (refuses TooDeep)) (first_byte o n b)
step (in_content d k c) b = line_byte d k c b
step (behind_cr d k c) b = cond (b == 0) (refuses BarredByte) (cond (b == 0x0A) (line_end d k c) (refuses Unpaired))

-- what finish hands on: it is refused inside a line, and otherwise ends the open paragraph
abbrev pub finish : State → Result (List Event) Cause
finish (in_marks None zero) = Ok []
finish (in_marks (Some d) zero) = Ok (ended ∷ [])
finish (in_marks o (suc n)) = Err Incomplete
finish (in_content d k c) = Err Incomplete
finish (behind_cr d k c) = Err Incomplete
