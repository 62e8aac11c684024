-- The paragraphs of a list of lines (RFC 3676, 4.1 Interpreting Format=Flowed).
use Rattle.std.specs.Prelude.{ℕ, cond, List, [], ◌∷◌, ◌++◌, Some, None, Option}
pub use Rattle.taker.specs.Mail.{Paragraph}
use Rattle.folding.specs.Text.{Text}
use Rattle.folding.specs.Reading.{Line, kind}
use Rattle.reading.specs.Lines.{is_flowed, continued_by}

-- the text of a paragraph from its line l on, with the lines ls behind that: the contents joined, as far as each line is continued
-- by the next
abbrev pub text_from : Line → List Line → Text
text_from l [] = l.content
text_from l (m ∷ ls) = l.content ++ cond (continued_by l m) (text_from m ls) []

-- the paragraph that begins with the line l
abbrev pub beginning_with : Line → List Line → Paragraph
beginning_with l ls = record { depth = l.depth; text = text_from l ls }

-- the paragraphs that begin behind the line l: one with each line that does not continue the line before it
abbrev pub behind : Line → List Line → List Paragraph
behind l [] = []
behind l (m ∷ ls) = cond (continued_by l m) (behind m ls) (beginning_with m ls ∷ behind m ls)

abbrev pub paragraphs : List Line → List Paragraph
paragraphs [] = []
paragraphs (l ∷ ls) = beginning_with l ls ∷ behind l ls

-- a flowed line leaves its paragraph open: the depth of that, if any
abbrev pub open_after : Line → Option ℕ
open_after l = cond (is_flowed (kind l.content)) (Some l.depth) None

-- and behind all lines
abbrev pub still_open : List Line → Option ℕ
still_open [] = None
still_open (l ∷ []) = open_after l
still_open (l ∷ m ∷ ls) = still_open (m ∷ ls)
