-- Whole lines are read as their paragraphs.
use Rattle.std.proofs.Common.{◌≡◌, ℕ, List, [], ◌∷◌, Some, None, Ok, Option, refl, ap, ◌∙◌, append-nil}
use Rattle.std.specs.List.{AllByRecursion}
use Rattle.folding.specs.Text.{Text}
use Rattle.folding.specs.Reading.{Line, read_line}
use Rattle.reading.specs.Lines.{Readable, text_of, read_lines}
use Rattle.reading.specs.Paragraphs.{Paragraph, beginning_with, behind, paragraphs, open_after, still_open}
use Rattle.reading.specs.Events.{Event, told, told_so_far}
use Rattle.reading.specs.Machine.{at_line, start}
use Rattle.reading.specs.Runs.{Run, run, finish_by}
use Rattle.reading.specs.Laws.{LinesRead}
use Rattle.reading.proofs.Runs.{Goes, goes_none, goes_then}
use Rattle.reading.proofs.LineByLine.{line_reads}
use Rattle.reading.proofs.Telling.{lines_events, lines_tell, told_ended, told_open}

-- the depth of the paragraph that is open behind lines
abbrev pub open_behind : Option ℕ → List Line → Option ℕ
open_behind o [] = o
open_behind o (l ∷ ls) = open_behind (open_after l) ls

-- lines from any line beginning
pub lines_go : (o : Option ℕ) (ls : List Text) → AllByRecursion Readable ls →
    Goes (at_line o) (text_of ls) (lines_events o (read_lines ls)) (at_line (open_behind o (read_lines ls)))
lines_go o [] h = goes_none
lines_go o (l ∷ ls) h = goes_then (line_reads o l h.0) (lines_go (open_after (read_line l)) ls h.1)

open_last : (l : Line) (ls : List Line) → open_behind (open_after l) ls ≡ still_open (l ∷ ls)
open_last l [] = refl
open_last l (m ∷ ls) = open_last m ls

pub open_behind_all : (ls : List Line) → open_behind None ls ≡ still_open ls
open_behind_all [] = refl
open_behind_all (l ∷ ls) = open_last l ls

finished : (o : Option ℕ) (p : Paragraph) (ps : List Paragraph) → finish_by (told_so_far o (p ∷ ps)) (Ok (at_line o)) ≡ Ok (told (p ∷ ps))
finished None p ps = ap (λ (es : List Event). Ok es) (append-nil (told_so_far None (p ∷ ps)) ∙ told_ended (p ∷ ps))
finished (Some d) p ps = ap (λ (es : List Event). Ok es) (told_open d p ps)

pub lines_finished : (ls : List Line) → finish_by (told_so_far (still_open ls) (paragraphs ls)) (Ok (at_line (still_open ls))) ≡ Ok (told (paragraphs ls))
lines_finished [] = refl
lines_finished (l ∷ ls) = finished (still_open (l ∷ ls)) (beginning_with l ls) (behind l ls)

pub lines_read : LinesRead
lines_read ls h = record { so_far = so_far; finished = ap (λ (r : Run). finish_by r.handed r.left) so_far ∙ lines_finished all }
  where
    all : List Line
    all = read_lines ls

    so_far : run start (text_of ls) ≡ record { handed = told_so_far (still_open all) (paragraphs all); left = Ok (at_line (still_open all)) }
    so_far = (lines_go None ls h).runs ∙ (λ i. record { handed = lines_tell all i; left = Ok (at_line (open_behind_all all i)) })
