-- Where a state stands in a line.
use Rattle.std.proofs.Common.{◌≡◌, ℕ, ◌≤◌, Bool, true, false, eqb, ◌⊎◌, List, [], ◌∷◌, ◌++◌, replicate, Some, None, Option, sym, refl, subst, inl, inr, append_assoc, append-nil, arith}
use Rattle.std.proofs.lemmas.List.{replicate_more}
use Rattle.fault.specs.declared.cause.Cause.TheVariants.{TooDeep}
use Rattle.taker.specs.Paragraph.{barred, deepest}
use Rattle.folding.specs.Text.{Text, space}
use Rattle.folding.specs.WireLine.{quote_mark, crlf}
use Rattle.folding.specs.Reading.{read_line}
use Rattle.reading.specs.Lines.{Readable}
use Rattle.reading.specs.Events.{Event}
use Rattle.reading.specs.Machine.{Content, held, passed, State, in_marks, in_content, behind_cr, at_line, Step, hands, refuses, with_before, settling, line_end, step}
use Rattle.reading.specs.Refusals.{Refused}
use Rattle.reading.proofs.Cleaning.{clean_push}
use Rattle.reading.proofs.Steps.{ContentStep, LineStep, Steps, steps}
use Rattle.reading.proofs.Marks.{marks_clean, all_marks, marked_longer, marked_by, depth_marks, depth_settled}

-- the beginning of a line that is longer than its quote marks
pub record Within (q : Text) : Type 0 where
  pub readable : Readable q
  pub marked : all_marks q ≡ false

-- behind the bytes q of a line
abbrev pub Stands : State → Text → Type 0
Stands (in_marks o n) q = (n ≤ deepest) × (q ≡ replicate n quote_mark)
Stands (in_content d k c) q = Within q
Stands (behind_cr d k c) q = (l : Text) × Readable l × (q ≡ l ++ 0x0D ∷ [])

-- the bytes of a line and its end
pub record Ended (q : Text) (b : ℕ) (s : State) : Type 0 where
  pub line : Text
  pub readable : Readable line
  pub is : q ++ b ∷ [] ≡ line ++ crlf
  pub before : Option ℕ
  pub at : s ≡ at_line before

-- and behind one byte more
abbrev pub After : Text → ℕ → Step → Type 0
After q b (hands es s) = Stands s (q ++ b ∷ []) ⊎ Ended q b s
After q b (refuses c) = Refused q b c

pub marks_readable : (n : ℕ) → n ≤ deepest → Readable (replicate n quote_mark)
marks_readable n s = record {
  clean = marks_clean n;
  shallow = subst (λ (t : Text). (read_line t).depth ≤ deepest) (append-nil (replicate n quote_mark)) (omega (arith, depth_marks n []));
}

-- a byte that is no quote mark behind them
marks_within : (n b : ℕ) → n ≤ deepest → eqb b quote_mark ≡ false → barred b ≡ false → Within (replicate n quote_mark ++ b ∷ [])
marks_within n b s e h = record {
  readable = record {
    clean = clean_push (replicate n quote_mark) b (marks_clean n) h;
    shallow = let first : (read_line (b ∷ [])).depth ≡ 0 = rw e refl in omega (arith, depth_marks n (b ∷ []));
  };
  marked = marked_by (replicate n quote_mark) b e;
}

-- a byte behind others
within_longer : (q : Text) (b : ℕ) → Within q → barred b ≡ false → Within (q ++ b ∷ [])
within_longer q b w h = record {
  readable = record {
    clean = clean_push q b w.readable.clean h;
    shallow = omega (arith, w.readable.shallow, depth_settled q (b ∷ []) w.marked);
  };
  marked = marked_longer q (b ∷ []) w.marked;
}

content_after : (q : Text) {d : ℕ} {k : Bool} {b : ℕ} {c : Content} {w : Step} → Within (q ++ b ∷ []) → ContentStep d k b c w → After q b w
content_after q h (ContentStep.holds e) = inl h
content_after q h (ContentStep.frees e) = inl h
content_after q h ContentStep.passes = inl h

line_after : (q : Text) {d : ℕ} {k : Bool} {c : Content} {b : ℕ} {w : Step} →
    Readable q → (barred b ≡ false → Within (q ++ b ∷ [])) → LineStep d k c b w → After q b w
line_after q r h LineStep.null = Refused.barred r
line_after q r h LineStep.line_feed = Refused.no_cr r
line_after q r h LineStep.return = inl (q, r, refl)
line_after q r h (LineStep.content e w) = content_after q (h e) w

before_after : (q : Text) (b : ℕ) (es : List Event) (w : Step) → After q b w → After q b (with_before es w)
before_after q b es (hands fs s) h = h
before_after q b es (refuses c) h = h

-- behind quote marks
marks_after : {o : Option ℕ} {n b : ℕ} {w : Step} → n ≤ deepest → Steps (in_marks o n) b w → After (replicate n quote_mark) b w
marks_after {n = n} s (Steps.deeper l) = inl (omega arith, replicate_more n quote_mark)
marks_after s (Steps.too_deep l) =
    let full : deepest ≡ _ = omega arith in
    subst (λ (m : ℕ). Refused (replicate m quote_mark) quote_mark TooDeep) full Refused.too_deep
marks_after {n = n} s Steps.stuffing = inl (marks_within n space s refl refl)
marks_after {o} {n} {b} s (Steps.first {w = w} e h) =
    before_after (replicate n quote_mark) b (settling o n) w (line_after (replicate n quote_mark) (marks_readable n s) (marks_within n b s e) h)

ended : (q : Text) (o : Option ℕ) → Readable q → Ended (q ++ 0x0D ∷ []) 0x0A (at_line o)
ended q o r = record { line = q; readable = r; is = append_assoc q (0x0D ∷ []) (0x0A ∷ []); before = o; at = refl }

end_after : (q : Text) (d : ℕ) (k : Bool) (c : Content) → Readable q → After (q ++ 0x0D ∷ []) 0x0A (line_end d k c)
end_after q d k (passed true) r = inr (ended q (Some d) r)
end_after q d k (passed false) r = inr (ended q None r)
end_after q d k (held t) r = inr (ended q None r)

-- behind 0D
cr_after : (q : Text) {d : ℕ} {k : Bool} {c : Content} {b : ℕ} {w : Step} → Readable q → Steps (behind_cr d k c) b w → After (q ++ 0x0D ∷ []) b w
cr_after q r Steps.null_after_cr = Refused.barred_after_cr r
cr_after q {d} {k} {c} r Steps.end = end_after q d k c r
cr_after q r (Steps.no_line_feed n m) = Refused.no_lf r n m

within_after : (q : Text) {d : ℕ} {k : Bool} {c : Content} {b : ℕ} {w : Step} → Within q → Steps (in_content d k c) b w → After q b w
within_after q {b = b} h (Steps.within w) = line_after q h.readable (within_longer q b h) w

pub step_after : (s : State) (q : Text) (b : ℕ) → Stands s q → After q b (step s b)
step_after (in_marks o n) q b h = subst (λ (t : Text). After t b (step (in_marks o n) b)) (sym h.1) (marks_after h.0 (steps (in_marks o n) b))
step_after (in_content d k c) q b h = within_after q h (steps (in_content d k c) b)
step_after (behind_cr d k c) q b h = subst (λ (t : Text). After t b (step (behind_cr d k c) b)) (sym h.2) (cr_after h.0 h.1 (steps (behind_cr d k c) b))
