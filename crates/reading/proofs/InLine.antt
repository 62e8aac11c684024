-- Behind the bytes of a line that were taken.
use Rattle.std.proofs.Common.{◌≡◌, ℕ, Bool, List, [], ◌∷◌, ◌++◌, Ok, Err, Option, Result, sym, refl, ap, ◌∙◌, subst, arith}
use Rattle.fault.specs.declared.cause.Cause.{Cause}
use Rattle.fault.specs.declared.cause.Cause.TheVariants.{BarredByte, Unpaired}
use Rattle.folding.specs.Text.{Text}
use Rattle.folding.specs.WireLine.{crlf}
use Rattle.reading.specs.Lines.{Clean, Readable, text_of}
use Rattle.reading.specs.Events.{Event}
use Rattle.reading.specs.Machine.{Content, held, State, in_marks, in_content, behind_cr, at_line, Step, hands, refuses, goes_on, settling, step}
use Rattle.reading.specs.Runs.{Run, run_by, run}
use Rattle.reading.specs.Laws.{run_on}
use Rattle.reading.proofs.Constructors.{err_ok}
use Rattle.reading.proofs.Cleaning.{clean_front, clean_cr}
use Rattle.reading.proofs.Runs.{bytes_in_turn}
use Rattle.reading.proofs.LineByLine.{line_reads}
use Rattle.reading.proofs.Standing.{Stands}
use Rattle.reading.proofs.Outcomes.{Outcome, run_outcome}

-- bytes behind others
pub left_then : (s : State) (bs cs : List ℕ) (r : Result State Cause) → (run s bs).left ≡ r → (run s (bs ++ cs)).left ≡ (run_on (run s bs).handed r cs).left
left_then s bs cs r e = ap (λ (w : Run). w.left) (bytes_in_turn s bs cs) ∙ ap (λ (l : Result State Cause). (run_on (run s bs).handed l cs).left) e

pub one_left : (s : State) (b : ℕ) (bs : List ℕ) (w : Step) → step s b ≡ w → (run s (b ∷ bs)).left ≡ (run_by w (λ t. run t bs)).left
one_left s b bs w e = ap (λ (v : Step). (run_by v (λ t. run t bs)).left) e

-- behind the bytes of a line
pub record At (o : Option ℕ) (q : Text) : Type 0 where
  pub state : State
  pub left : (run (at_line o) q).left ≡ Ok state
  pub stands : Stands state q

alone : (ls : List Text) (q : Text) → Clean (text_of ls ++ q) → text_of ls ++ q ≡ q
alone [] q h = refl
alone (l ∷ ls) q h = absurd (clean_cr l (0x0A ∷ []) (clean_front (l ++ crlf) (text_of ls) (clean_front ((l ++ crlf) ++ text_of ls) q h)))

pub line_taken : (o : Option ℕ) (l : Text) → Readable l → At o l
line_taken o l h = go (run (at_line o) l).left refl (run_outcome (at_line o) [] l (omega arith, refl))
  where
    go : (r : Result State Cause) → (run (at_line o) l).left ≡ r → Outcome r l → At o l
    go (Ok s) e w =
        let same : l ≡ w.line = w.is ∙ alone w.lines w.line (subst Clean w.is h.clean) in
        record { state = s; left = e; stands = subst (Stands s) (sym same) w.stands }
    go (Err c) e w = absurd (err_ok (sym (left_then (at_line o) l crlf (Err c) e) ∙ ap (λ (r : Run). r.left) (line_reads o l h).runs))

-- the next byte, where the line has no 0D yet
pub record Next (s : State) : Type 0 where
  pub barred_byte : step s 0x00 ≡ refuses BarredByte
  pub line_feed : step s 0x0A ≡ refuses Unpaired
  pub events : List Event
  pub depth : ℕ
  pub before : Bool
  pub content : Content
  pub return : step s 0x0D ≡ hands events (behind_cr depth before content)

pub next : (s : State) (q : Text) → Clean q → Stands s q → Next s
next (in_marks o n) q h w =
    record { barred_byte = refl; line_feed = refl; events = settling o n ++ []; depth = n; before = goes_on o n; content = held []; return = refl }
next (in_content d k c) q h w = record { barred_byte = refl; line_feed = refl; events = []; depth = d; before = k; content = c; return = refl }
next (behind_cr d k c) q h w = absurd (clean_cr w.0 [] (subst Clean w.2 h))

unfoldable pub cr_taken : (o : Option ℕ) (l : Text) → Readable l → At o (l ++ 0x0D ∷ [])
cr_taken o l h =
    let a = line_taken o l h in
    let n = next a.state l h.clean a.stands in
    record {
      state = behind_cr n.depth n.before n.content;
      left = left_then (at_line o) l (0x0D ∷ []) (Ok a.state) a.left ∙ one_left a.state 0x0D [] _ n.return;
      stands = (l, h, refl);
    }
