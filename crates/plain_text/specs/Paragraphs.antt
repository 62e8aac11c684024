-- The paragraphs of a plain text, one for each line.
use Rattle.std.specs.Prelude.{ℕ, min, List, map, nat_eq}
use Rattle.std.specs.List.{prefix_len}
use Rattle.fault.specs.Faults.{most}
use Rattle.taker.specs.Mail.{Paragraph}
use Rattle.folding.specs.Text.{Text}
use Rattle.folding.specs.WireLine.{quote_mark}
use Rattle.folding.specs.Reading.{Line, read_line}
use Rattle.plain_text.specs.declared.line.Line as line
use Rattle.plain_text.specs.declared.line.Depths.{Depths}
use Rattle.plain_text.specs.declared.line.Depths.TheVariants.{Each, Marks}
use Rattle.plain_text.specs.Lines.{text_lines}

-- how many 3E bytes stand in front
abbrev pub marks : Text → ℕ
marks t = prefix_len (λ b. nat_eq b quote_mark) t

-- a greater depth than can be told is told as the greatest
abbrev pub of_line : Line → Paragraph
of_line l = record { depth = min l.depth most; text = l.content }

-- of a line, by its text: at the given depth; or at as many as it has 3E bytes in front, which go, and one 20 behind them
abbrev pub paragraph_of : Depths → Text → Paragraph
paragraph_of (Each d) l = record { depth = d; text = l }
paragraph_of Marks l = of_line (read_line l)

-- a line as a paragraph
abbrev pub paragraph : line.Line → Paragraph
paragraph l = record { depth = l.depth; text = l.text.now }

abbrev pub paragraphs_of : Depths → Text → List Paragraph
paragraphs_of ds t = map (paragraph_of ds) (text_lines t)
