-- The composer as a machine over paragraph orders: which orders it refuses, and what it sends down, from what it holds now.
use Rattle.std.specs.Prelude.{ℕ, ◌+◌, Bool, true, false, not, List, [], ◌∷◌, ◌++◌, length, drop, is_some, Some, None, Option, ◌==◌, nat_le, nat_lt}
use Rattle.std.specs.List.{flat_map}
use Rattle.fault.specs.declared.cause.Cause.{Cause}
use Rattle.fault.specs.declared.cause.Cause.TheVariants.{ParagraphOpen, NoParagraph, TooDeep, ParagraphLeft, BarredByte, OverLimit, NoFolding, GivenUp, WrongNumber}
use Rattle.fault.specs.declared.layer.Layer.TheVariants.{Composer}
use Rattle.taker.specs.Paragraph.{Order, opens, texts, ends, gives_up, finishes, paragraphs}
pub use Rattle.taker.specs.Paragraph.{barred, deepest}
use Rattle.layer.specs.Layer.{Move, sends, stops, Machine}
use Rattle.folding.specs.Text.{Text, trimmed, settled_behind}
use Rattle.folding.specs.WireLine.{wire_line, wire_lines}
use Rattle.folding.specs.Folded.{Folded}
use Rattle.folding.specs.Folding.{folding}

-- an open paragraph
pub record Within : Type 0 where
  pub depth : ℕ
  -- the text that was not sent: the last line of the folding so far, and the spaces behind it
  pub held : Text
  -- how many lines were sent
  pub lines : ℕ
  -- how many text bytes came
  pub bytes : ℕ

pub record Composing : Type 0 where
  pub width : ℕ
  -- how many paragraphs were opened: the number of the open one
  pub opened : ℕ
  pub paragraph : Option Within

-- the most paragraphs, and the most bytes of one
abbrev pub limit : ℕ
limit = 1000000

-- the cause if the test holds, else the next
abbrev pub refuse_if : Bool → Cause → Option Cause → Option Cause
refuse_if true c next = Some c
refuse_if false c next = next

abbrev pub open_refusal : ℕ → ℕ → Option Within → Option Cause
open_refusal d n (Some p) = Some ParagraphOpen
open_refusal d n None = refuse_if (nat_lt deepest d) TooDeep (refuse_if (nat_le limit n) OverLimit None)

-- the text through the byte, settled, has no folding
abbrev pub lacks_folding : ℕ → Within → ℕ → Bool
lacks_folding w p b = not (is_some (folding p.depth w (settled_behind p.lines (p.held ++ b ∷ []))))

abbrev pub text_refusal : ℕ → ℕ → Option Within → Option Cause
text_refusal w b None = Some NoParagraph
text_refusal w b (Some p) = refuse_if (barred b) BarredByte (refuse_if (nat_le limit p.bytes) OverLimit (refuse_if (lacks_folding w p b) NoFolding None))

abbrev pub end_refusal : ℕ → ℕ → Option Within → Option Cause
end_refusal i n None = Some NoParagraph
end_refusal i n (Some p) = refuse_if (not (i == n)) WrongNumber None

-- giving up is never accepted
abbrev pub give_up_refusal : ℕ → ℕ → Option Within → Option Cause
give_up_refusal i n None = Some NoParagraph
give_up_refusal i n (Some p) = refuse_if (not (i == n)) WrongNumber (Some GivenUp)

abbrev pub finish_refusal : Option Within → Option Cause
finish_refusal None = None
finish_refusal (Some p) = Some ParagraphLeft

-- the first cause that an order is refused with
abbrev pub refusal : Composing → Order → Option Cause
refusal s (opens d) = open_refusal d s.opened s.paragraph
refusal s (texts b) = text_refusal s.width b s.paragraph
refusal s (ends i) = end_refusal i s.opened s.paragraph
refusal s (gives_up i) = give_up_refusal i s.opened s.paragraph
refusal s finishes = finish_refusal s.paragraph

abbrev pub flowed_of : Option Folded → List Text
flowed_of None = []
flowed_of (Some f) = f.flowed

-- every line but the last of the folding of a text through its last byte that is no space
abbrev pub finished_lines : ℕ → ℕ → Text → List Text
finished_lines d w t = flowed_of (folding d w (trimmed t))

-- what is left of a text behind lines
abbrev pub behind_lines : List Text → Text → Text
behind_lines ps t = drop (length (flat_map (λ p. p) ps)) t

abbrev pub with_byte : ℕ → ℕ → Within → Within
with_byte w b p =
    let t = p.held ++ b ∷ [] in
    let ps = finished_lines p.depth w t in
    record { depth = p.depth; held = behind_lines ps t; lines = p.lines + length ps; bytes = p.bytes + 1 }

abbrev pub text_bytes : ℕ → ℕ → Option Within → List ℕ
text_bytes w b None = []
text_bytes w b (Some p) = wire_lines p.depth (finished_lines p.depth w (p.held ++ b ∷ []))

-- the end sends the last line, and is told how many lines there were
abbrev pub end_bytes : Option Within → List ℕ
end_bytes None = []
end_bytes (Some p) = wire_line p.depth (settled_behind p.lines p.held)

abbrev pub end_tells : Option Within → ℕ
end_tells None = 0
end_tells (Some p) = p.lines + 1

abbrev pub on_text : ℕ → ℕ → Option Within → Option Within
on_text w b None = None
on_text w b (Some p) = Some (with_byte w b p)

abbrev pub begun : ℕ → Within
begun d = record { depth = d; held = []; lines = 0; bytes = 0 }

-- what an accepted order sends down
abbrev pub bytes_of : Composing → Order → List ℕ
bytes_of s (opens d) = []
bytes_of s (texts b) = text_bytes s.width b s.paragraph
bytes_of s (ends i) = end_bytes s.paragraph
bytes_of s (gives_up i) = []
bytes_of s finishes = []

-- and what it leaves
abbrev pub next_state : Composing → Order → Composing
next_state s (opens d) = record { width = s.width; opened = s.opened + 1; paragraph = Some (begun d) }
next_state s (texts b) = record { width = s.width; opened = s.opened; paragraph = on_text s.width b s.paragraph }
next_state s (ends i) = record { width = s.width; opened = s.opened; paragraph = None }
next_state s (gives_up i) = s
next_state s finishes = s

-- and what it answers: an open the paragraph's number, an end the number of lines
abbrev pub tells : Composing → Order → ℕ
tells s (opens d) = s.opened + 1
tells s (texts b) = 0
tells s (ends i) = end_tells s.paragraph
tells s (gives_up i) = 0
tells s finishes = 0

abbrev pub unless : Option Cause → Move Composing → Move Composing
unless (Some c) m = stops c
unless None m = m

abbrev pub moves : Composing → Order → Move Composing
moves s o = unless (refusal s o) (sends (bytes_of s o) (next_state s o))

abbrev pub between : Composing → Bool
between s = not (is_some s.paragraph)

abbrev pub composer : Machine paragraphs
composer = record { St = Composing; move = moves; tells = tells; ready = between; layer = Composer; over = λ u. tt }

-- before the first paragraph
abbrev pub start : ℕ → Composing
start w = record { width = w; opened = 0; paragraph = None }
