-- What any bytes come to, by the lines in them.
use Rattle.std.proofs.Common.{◌≡◌, ℕ, zero, suc, List, [], ◌∷◌, ◌++◌, Ok, Err, Result, sym, refl, ap, ◌∙◌, subst, ⊎_elim, append_assoc, append-nil, arith}
use Rattle.std.specs.List.{AllByRecursion}
use Rattle.fault.specs.declared.cause.Cause.{Cause}
use Rattle.folding.specs.Text.{Text}
use Rattle.folding.specs.WireLine.{crlf}
use Rattle.reading.specs.Lines.{Readable, text_of}
use Rattle.reading.specs.Events.{Event}
use Rattle.reading.specs.Machine.{State, in_marks, in_content, behind_cr, start, Step, hands, refuses, step, finish}
use Rattle.reading.specs.Runs.{run_by, run, finish_by, behind_events}
use Rattle.reading.specs.Laws.{OnlyLinesRead}
use Rattle.reading.specs.Refusals.{FirstRefused}
use Rattle.reading.proofs.Constructors.{err_ok}
use Rattle.reading.proofs.Standing.{Stands, Ended, After, step_after}

-- bytes that were taken: whole lines, and the beginning of another
pub record Taken (s : State) (bs : List ℕ) : Type 0 where
  pub lines : List Text
  pub readable : AllByRecursion Readable lines
  pub line : Text
  pub stands : Stands s line
  pub is : bs ≡ text_of lines ++ line

abbrev pub Outcome : Result State Cause → List ℕ → Type 0
Outcome (Ok s) bs = Taken s bs
Outcome (Err c) bs = FirstRefused bs c

-- a line before bytes
line_before : (l : Text) (bs : List ℕ) (r : Result State Cause) → Readable l → Outcome r bs → Outcome r ((l ++ crlf) ++ bs)
line_before l bs (Ok s) h w = record {
  lines = l ∷ w.lines;
  readable = (h, w.readable);
  line = w.line;
  stands = w.stands;
  is = ap (λ (t : Text). (l ++ crlf) ++ t) w.is ∙ sym (append_assoc (l ++ crlf) (text_of w.lines) w.line);
}
line_before l bs (Err c) h w = record {
  lines = l ∷ w.lines;
  readable = (h, w.readable);
  line = w.line;
  byte = w.byte;
  rest = w.rest;
  refused = w.refused;
  is = ap (λ (t : Text). (l ++ crlf) ++ t) w.is ∙ sym (append_assoc (l ++ crlf) (text_of w.lines) (w.line ++ w.byte ∷ w.rest));
}

-- behind the bytes q of a line
pub run_outcome : (s : State) (q : Text) (bs : List ℕ) → Stands s q → Outcome (run s bs).left (q ++ bs)
run_outcome s q [] h = record { lines = []; readable = tt; line = q; stands = h; is = append-nil q }
run_outcome s q (b ∷ bs) h = go (step s b) (step_after s q b h) (λ t p. run_outcome t p bs)
  where
    go : (w : Step) → After q b w → ((t : State) (p : Text) → Stands t p → Outcome (run t bs).left (p ++ bs)) →
        Outcome (run_by w (λ t. run t bs)).left (q ++ b ∷ bs)
    go (hands es t) a rest = ⊎_elim
        (λ (k : Stands t (q ++ b ∷ [])). subst (Outcome (run t bs).left) (append_assoc q (b ∷ []) bs) (rest t (q ++ b ∷ []) k))
        (λ (k : Ended q b t).
        let begins : Stands t [] = subst (λ (u : State). Stands u []) (sym k.at) (omega arith, refl) in
        let same : q ++ b ∷ bs ≡ (k.line ++ crlf) ++ bs = sym (append_assoc q (b ∷ []) bs) ∙ ap (λ (u : Text). u ++ bs) k.is in
        subst (Outcome (run t bs).left) (sym same) (line_before k.line bs (run t bs).left k.readable (rest t [] begins)))
        a
    go (refuses c) a rest = record { lines = []; readable = tt; line = q; byte = b; rest = bs; refused = a; is = refl }

pub start_outcome : (bs : List ℕ) → Outcome (run start bs).left bs
start_outcome bs = run_outcome start [] bs (omega arith, refl)

-- a finish that is not refused stands at a line beginning
finished_line : (s : State) (q : Text) (fs es : List Event) → behind_events fs (finish s) ≡ Ok es → Stands s q → q ≡ []
finished_line (in_marks o zero) q fs es e h = h.1
finished_line (in_marks o (suc n)) q fs es e h = absurd (err_ok e)
finished_line (in_content d k c) q fs es e h = absurd (err_ok e)
finished_line (behind_cr d k c) q fs es e h = absurd (err_ok e)

pub only_lines_read : OnlyLinesRead
only_lines_read bs es = go (run start bs).left (start_outcome bs)
  where
    go : (r : Result State Cause) → Outcome r bs → finish_by (run start bs).handed r ≡ Ok es → (ls : List Text) × AllByRecursion Readable ls × (bs ≡ text_of ls)
    go (Ok s) w e =
        let none = finished_line s w.line (run start bs).handed es e w.stands in
        (w.lines, w.readable, w.is ∙ ap (λ (t : Text). text_of w.lines ++ t) none ∙ append-nil (text_of w.lines))
    go (Err c) w e = absurd (err_ok e)
