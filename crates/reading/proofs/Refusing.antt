-- Which bytes are refused.
use Rattle.std.proofs.Common.{◌≡◌, ℕ, zero, suc, ◌<◌, ◌≤◌, true, false, ◌⊎◌, List, [], ◌∷◌, ◌++◌, length, replicate, Some, None, Ok, Err, Option, Result, sym, refl, ap, ◌∙◌, subst, inl, inr, ⊎_elim, append-nil, arith, length-append}
use lib.ListN.{length-replicate}
use Rattle.std.specs.List.{AllByRecursion}
use Rattle.std.proofs.lemmas.Bool.{both_ways, ne_eqb, le-ltb}
use Rattle.fault.specs.declared.cause.Cause.{Cause}
use Rattle.fault.specs.declared.cause.Cause.TheVariants.{TooDeep, Incomplete}
use Rattle.taker.specs.Paragraph.{deepest}
use Rattle.folding.specs.Text.{Text}
use Rattle.folding.specs.WireLine.{quote_mark}
use Rattle.reading.specs.Lines.{Clean, Readable, text_of, read_lines}
use Rattle.reading.specs.Events.{Event}
use Rattle.reading.specs.Machine.{State, in_marks, in_content, behind_cr, at_line, start, refuses, step, finish}
use Rattle.reading.specs.Runs.{Run, run, finish_by, behind_events, read}
use Rattle.reading.specs.Refusals.{Refused, FirstRefused, Begun, Unfinished, Refusals}
use Rattle.reading.proofs.Constructors.{ok_err}
use Rattle.reading.proofs.Cleaning.{clean_cr}
use Rattle.reading.proofs.Marks.{marks_clean, all_marks, marks_all}
use Rattle.reading.proofs.Lines.{open_behind, lines_go}
use Rattle.reading.proofs.Standing.{Stands, marks_readable}
use Rattle.reading.proofs.Outcomes.{Outcome, start_outcome}
use Rattle.reading.proofs.InLine.{left_then, one_left, At, line_taken, next, cr_taken}

-- the greatest depth leaves no room for a quote mark
deep : (s : State) → Stands s (replicate deepest quote_mark) → step s quote_mark ≡ refuses TooDeep
deep (in_marks o n) w =
    let full : deepest ≤ n = omega (arith, ap length w.1 ∙ length-replicate n quote_mark) in
    rw (le-ltb n deepest full) refl
deep (in_content d k c) w = absurd (both_ways (all_marks (replicate deepest quote_mark)) w.marked (marks_all deepest))
deep (behind_cr d k c) w = absurd (clean_cr w.0 [] (subst Clean w.2 (marks_clean deepest)))

-- a byte that is refused behind the bytes of a line
refused_at : (o : Option ℕ) (q : Text) (b : ℕ) (c : Cause) → Refused q b c → (a : At o q) × (step a.state b ≡ refuses c)
unfolding cr_taken
refused_at o q b c Refused.too_deep = let a = line_taken o q (marks_readable deepest (omega arith)) in (a, deep a.state a.stands)
refused_at o q b c (Refused.barred r) = let a = line_taken o q r in (a, (next a.state q r.clean a.stands).barred_byte)
refused_at o q b c (Refused.barred_after_cr {l} r) = (cr_taken o l r, refl)
refused_at o q b c (Refused.no_cr r) = let a = line_taken o q r in (a, (next a.state q r.clean a.stands).line_feed)
refused_at o q b c (Refused.no_lf {l} r n m) = (cr_taken o l r, rw (ne_eqb b 0 n, ne_eqb b 0x0A m) refl)

-- whole lines, and then the bytes of another
left_behind : (ls : List Text) (q : Text) (cs : List ℕ) → AllByRecursion Readable ls → (a : At (open_behind None (read_lines ls)) q) →
    (run start (text_of ls ++ (q ++ cs))).left ≡ (run a.state cs).left
left_behind ls q cs h a =
    let o = open_behind None (read_lines ls) in
    left_then start (text_of ls) (q ++ cs) (Ok (at_line o)) (ap (λ (r : Run). r.left) (lines_go None ls h).runs)
    ∙ left_then (at_line o) q cs (Ok a.state) a.left

refused_left : (bs : List ℕ) (c : Cause) → FirstRefused bs c → (run start bs).left ≡ Err c
refused_left bs c w =
    let a = refused_at (open_behind None (read_lines w.lines)) w.line w.byte c w.refused in
    ap (λ (t : Text). (run start t).left) w.is ∙ left_behind w.lines w.line (w.byte ∷ w.rest) w.readable a.0
    ∙ one_left a.0.state w.byte w.rest (refuses c) a.1

-- the finish inside a line
begun_at : (o : Option ℕ) (q : Text) → Begun q → At o q
begun_at o q (Begun.inside r) = line_taken o q r
begun_at o q (Begun.after_cr {l} r) = cr_taken o l r

finish_inside : (s : State) (q : Text) → Stands s q → 0 < length q → finish s ≡ Err Incomplete
finish_inside (in_marks o zero) q w l = absurd (omega (arith, ap length w.1))
finish_inside (in_marks o (suc n)) q w l = refl
finish_inside (in_content d k c) q w l = refl
finish_inside (behind_cr d k c) q w l = refl

unfinished_read : (bs : List ℕ) → Unfinished bs → read bs ≡ Err Incomplete
unfinished_read bs w =
    let a = begun_at (open_behind None (read_lines w.lines)) w.line w.begun in
    let es = (run start bs).handed in
    let left : (run start bs).left ≡ Ok a.state =
    ap (λ (t : Text). (run start t).left) (w.is ∙ ap (λ (t : Text). text_of w.lines ++ t) (sym (append-nil w.line)))
    ∙ left_behind w.lines w.line [] w.readable a in
    ap (finish_by es) left ∙ ap (behind_events es) (finish_inside a.state w.line a.stands w.some)

-- a finish that is refused
stands_begun : (s : State) (q : Text) → Stands s q → Begun q
stands_begun (in_marks o n) q w = subst Begun (sym w.1) (Begun.inside (marks_readable n w.0))
stands_begun (in_content d k c) q w = Begun.inside w.readable
stands_begun (behind_cr d k c) q w = subst Begun (sym w.2) (Begun.after_cr w.1)

some_marked : (q : Text) → all_marks q ≡ false → 0 < length q
some_marked [] e = absurd (both_ways true e refl)
some_marked (b ∷ q) e = omega arith

stopped_inside : (s : State) (q : Text) (fs : List Event) (c : Cause) → Stands s q → behind_events fs (finish s) ≡ Err c → (c ≡ Incomplete) × (0 < length q)
stopped_inside (in_marks None zero) q fs c w e = absurd (ok_err e)
stopped_inside (in_marks (Some d) zero) q fs c w e = absurd (ok_err e)
stopped_inside (in_marks o (suc n)) q fs c w e = (cc, omega (arith, ap length w.1 ∙ length-replicate (suc n) quote_mark))
stopped_inside (in_content d k b) q fs c w e = (cc, some_marked q w.marked)
stopped_inside (behind_cr d k b) q fs c w e = (cc, omega (arith, ap length w.2 ∙ length-append w.0 (0x0D ∷ [])))

read_refused : (bs : List ℕ) (c : Cause) → read bs ≡ Err c → FirstRefused bs c ⊎ ((c ≡ Incomplete) × Unfinished bs)
read_refused bs c = go (run start bs).left (start_outcome bs)
  where
    go : (r : Result State Cause) → Outcome r bs → finish_by (run start bs).handed r ≡ Err c → FirstRefused bs c ⊎ ((c ≡ Incomplete) × Unfinished bs)
    go (Ok s) w e =
        let i = stopped_inside s w.line (run start bs).handed c w.stands e in
        inr (i.0, record { lines = w.lines; readable = w.readable; line = w.line; begun = stands_begun s w.line w.stands; some = i.1; is = w.is })
    go (Err b) w e = let same : b ≡ c = cc in inl (subst (FirstRefused bs) same w)

refused_read : (bs : List ℕ) (c : Cause) → FirstRefused bs c ⊎ ((c ≡ Incomplete) × Unfinished bs) → read bs ≡ Err c
refused_read bs c = ⊎_elim
    (λ (w : FirstRefused bs c). ap (finish_by (run start bs).handed) (refused_left bs c w))
    (λ (w : (c ≡ Incomplete) × Unfinished bs). unfinished_read bs w.1 ∙ ap (λ (b : Cause). Err b) (sym w.0))

left_refused : (bs : List ℕ) (c : Cause) → (run start bs).left ≡ Err c → FirstRefused bs c
left_refused bs c e = subst (λ (r : Result State Cause). Outcome r bs) e (start_outcome bs)

pub refusals : Refusals
refusals bs c = record { bytes = (left_refused bs c, refused_left bs c); finish = (read_refused bs c, refused_read bs c) }
