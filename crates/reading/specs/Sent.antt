-- What is sent reads back.
use Rattle.std.specs.Prelude.{◌≡◌, ℕ, ◌≤◌, List, map, Some, Ok}
use Rattle.std.specs.List.{flat_map, AllByRecursion}
use Rattle.taker.specs.Paragraph.{deepest}
use Rattle.folding.specs.Text.{Text, settled}
use Rattle.folding.specs.WireLine.{bare_line, wire_lines}
use Rattle.folding.specs.Folded.{Folded, pieces}
use Rattle.folding.specs.Folding.{folding}
use Rattle.reading.specs.Lines.{Clean, Readable, text_of, read_lines}
use Rattle.reading.specs.Paragraphs.{Paragraph, paragraphs}
use Rattle.reading.specs.Events.{told}
use Rattle.reading.specs.Machine.{start}
use Rattle.reading.specs.Runs.{run, read}

-- a paragraph and its folding, at any width
pub record Sent : Type 0 where
  pub depth : ℕ
  pub text : Text
  pub folded : Folded

pub record Sendable (p : Sent) : Type 0 where
  pub shallow : p.depth ≤ deepest
  pub clean : Clean p.text
  pub width : ℕ
  pub folds : folding p.depth width (settled p.text) ≡ Some p.folded

-- the wire bytes of paragraphs, one paragraph after the other, and their lines
abbrev pub sent_bytes : List Sent → Text
sent_bytes ps = flat_map (λ p. wire_lines p.depth (pieces p.folded)) ps

abbrev pub sent_lines : List Sent → List Text
sent_lines ps = flat_map (λ p. map (bare_line p.depth) (pieces p.folded)) ps

abbrev pub settled_paragraphs : List Sent → List Paragraph
settled_paragraphs ps = map (λ p. record { depth = p.depth; text = settled p.text }) ps

-- paragraphs are read back from what was sent, in order and with their settled texts, and nothing more: by the lines as a whole,
-- and byte by byte, with the finish and without
pub record ReadsBack (ps : List Sent) : Type 0 where
  pub bytes : text_of (sent_lines ps) ≡ sent_bytes ps
  pub readable : AllByRecursion Readable (sent_lines ps)
  pub by_lines : paragraphs (read_lines (sent_lines ps)) ≡ settled_paragraphs ps
  pub so_far : run start (sent_bytes ps) ≡ record { handed = told (settled_paragraphs ps); left = Ok start }
  pub finished : read (sent_bytes ps) ≡ Ok (told (settled_paragraphs ps))

abbrev pub SentReadsBack : Type 0
SentReadsBack = (ps : List Sent) → AllByRecursion Sendable ps → ReadsBack ps

-- different paragraphs never share their wire bytes
abbrev pub SentApart : Type 0
SentApart = (ps qs : List Sent) → AllByRecursion Sendable ps → AllByRecursion Sendable qs → sent_bytes ps ≡ sent_bytes qs → settled_paragraphs ps ≡ settled_paragraphs qs
