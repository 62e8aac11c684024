-- The mail that a composer accepted so far, and the wire bytes that the folding rules give for it.
use Rattle.std.specs.Prelude.{ℕ, ◌+◌, List, [], ◌∷◌, ◌++◌, length, Some, None, Option}
use Rattle.std.specs.List.{flat_map}
use Rattle.taker.specs.Paragraph.{Order, opens, texts, ends, gives_up, finishes}
use Rattle.taker.specs.Mail.{Paragraph}
use Rattle.folding.specs.Text.{Text, trimmed, settled}
use Rattle.folding.specs.WireLine.{wire_lines}
use Rattle.folding.specs.Folded.{Folded, pieces}
use Rattle.folding.specs.Folding.{folding}
use Rattle.composer.specs.Machine.{flowed_of}
use Rattle.composer.specs.Mails.{text_length, as_place}

-- paragraphs that were ended, and the one that is open, if any
pub record Mail : Type 0 where
  pub ended : List Paragraph
  pub begun : Option Paragraph

abbrev pub nothing : Mail
nothing = record { ended = []; begun = None }

abbrev pub pieces_of : Option Folded → List Text
pieces_of None = []
pieces_of (Some f) = pieces f

-- the lines of an ended paragraph are the folding of its settled text
abbrev pub lines_of : ℕ → Paragraph → List Text
lines_of w p = pieces_of (folding p.depth w (settled p.text))

-- of an open one every line but the last of the folding of its text through its last byte that is no space
abbrev pub lines_so_far : ℕ → Paragraph → List Text
lines_so_far w p = flowed_of (folding p.depth w (trimmed p.text))

abbrev pub ended_bytes : ℕ → List Paragraph → Text
ended_bytes w ps = flat_map (λ p. wire_lines p.depth (lines_of w p)) ps

abbrev pub open_bytes : ℕ → Option Paragraph → Text
open_bytes w None = []
open_bytes w (Some p) = wire_lines p.depth (lines_so_far w p)

-- the wire bytes of a mail so far, at width w
abbrev pub bytes_for : ℕ → Mail → Text
bytes_for w m = ended_bytes w m.ended ++ open_bytes w m.begun

abbrev pub open_length : Option Paragraph → ℕ
open_length None = 0
open_length (Some p) = length p.text

-- the place: how many text bytes there are, capped
abbrev pub place_for : Mail → ℕ
place_for m = as_place (text_length m.ended + open_length m.begun)

-- the number of the open paragraph, or else of the next
abbrev pub number : Mail → ℕ
number m = length m.ended + 1

abbrev pub with_text : Option Paragraph → ℕ → Option Paragraph
with_text None b = None
with_text (Some p) b = Some (record { depth = p.depth; text = p.text ++ b ∷ [] })

abbrev pub with_ended : List Paragraph → Option Paragraph → List Paragraph
with_ended ps None = ps
with_ended ps (Some p) = ps ++ p ∷ []

-- the mail with an accepted order: an open begins a paragraph, a byte joins its text, an end ends it
abbrev pub mail_with : Mail → Order → Mail
mail_with m (opens d) = record { ended = m.ended; begun = Some (record { depth = d; text = [] }) }
mail_with m (texts b) = record { ended = m.ended; begun = with_text m.begun b }
mail_with m (ends i) = record { ended = with_ended m.ended m.begun; begun = None }
mail_with m (gives_up i) = m
mail_with m finishes = m
