-- What is proved of readings.
use Rattle.std.specs.Prelude.{◌≡◌, ℕ, List, ◌++◌, Ok, Err, Result}
use Rattle.std.specs.List.{flat_map, AllByRecursion}
use Rattle.fault.specs.declared.cause.Cause.{Cause}
use Rattle.folding.specs.Text.{Text}
use Rattle.folding.specs.Reading.{Line}
use Rattle.reading.specs.Lines.{Readable, text_of, read_lines}
use Rattle.reading.specs.Paragraphs.{paragraphs, still_open}
use Rattle.reading.specs.Events.{Event, told, told_so_far}
use Rattle.reading.specs.Machine.{State, at_line, start}
use Rattle.reading.specs.Runs.{Run, run, read}

-- what bytes hand on is what a beginning of them hands on, and then what the rest hands on from there
abbrev pub run_on : List Event → Result State Cause → List ℕ → Run
run_on es (Ok s) bs = record { handed = es ++ (run s bs).handed; left = (run s bs).left }
run_on es (Err c) bs = record { handed = es; left = Err c }

abbrev pub BytesInTurn : Type 0
BytesInTurn = (s : State) (bs cs : List ℕ) → run s (bs ++ cs) ≡ run_on (run s bs).handed (run s bs).left cs

-- the texts of the paragraphs are the contents of the lines: none is lost, and nothing added
abbrev pub ContentsKept : Type 0
ContentsKept = (ls : List Line) → flat_map (λ p. p.text) (paragraphs ls) ≡ flat_map (λ l. l.content) ls

-- whole lines are read as their paragraphs: nothing is refused, each paragraph is handed on with its end, but for one that is
-- still open, which the finish ends
pub record ReadAsParagraphs (ls : List Text) : Type 0 where
  pub so_far : run start (text_of ls) ≡ record {
    handed = told_so_far (still_open (read_lines ls)) (paragraphs (read_lines ls));
    left = Ok (at_line (still_open (read_lines ls)));
  }
  pub finished : read (text_of ls) ≡ Ok (told (paragraphs (read_lines ls)))

abbrev pub LinesRead : Type 0
LinesRead = (ls : List Text) → AllByRecursion Readable ls → ReadAsParagraphs ls

-- no other bytes are taken whole and finished on
abbrev pub OnlyLinesRead : Type 0
OnlyLinesRead = (bs : List ℕ) (es : List Event) → read bs ≡ Ok es → (ls : List Text) × AllByRecursion Readable ls × (bs ≡ text_of ls)
