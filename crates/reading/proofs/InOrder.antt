-- What is handed on is in order.
use Rattle.std.proofs.Common.{◌≡◌, ℕ, zero, suc, ◌≤◌, Bool, true, false, cond, ◌&&◌, eqb, List, [], ◌∷◌, ◌++◌, Some, None, Ok, Err, Option, Result, refl, subst, arith}
use Rattle.std.specs.Str.{bytes_eq}
use Rattle.std.proofs.lemmas.Bool.{eqb-true}
use Rattle.fault.specs.declared.cause.Cause.{Cause}
use Rattle.taker.specs.Paragraph.{barred, deepest}
use Rattle.folding.specs.Text.{Text, signature}
use Rattle.reading.specs.Lines.{Clean}
use Rattle.reading.specs.Events.{Event, opened, ended, texts}
use Rattle.reading.specs.Machine.{Content, held, passed, State, in_marks, in_content, behind_cr, start, Step, hands, refuses, with_before, settling, line_end, step, finish}
use Rattle.reading.specs.Runs.{Run, run_by, run, finish_by, behind_events}
use Rattle.reading.proofs.Constructors.{err_ok}
use Rattle.reading.proofs.Cleaning.{clean_push}
use Rattle.reading.proofs.Signatures.{beginning_clean}
use Rattle.reading.proofs.Steps.{ContentStep, LineStep, Steps, steps}
use Rattle.reading.specs.InOrder.{open_in, InOrder, SoundContent, Sound, HandedInOrder}

pub in_order_then : {o p q : Option ℕ} {es fs : List Event} → InOrder o es p → InOrder p fs q → InOrder o (es ++ fs) q
in_order_then InOrder.nothing k = k
in_order_then (InOrder.opening l h) k = InOrder.opening l (in_order_then h k)
in_order_then (InOrder.byte e h) k = InOrder.byte e (in_order_then h k)
in_order_then (InOrder.ending h) k = InOrder.ending (in_order_then h k)

texts_in_order : (d : ℕ) (t : Text) → Clean t → InOrder (Some d) (texts t) (Some d)
texts_in_order d [] h = InOrder.nothing
texts_in_order d (b ∷ t) h = InOrder.byte h.0 (texts_in_order d t h.1)

-- a step from where the paragraph of depth o is open, if any
abbrev pub StepsInOrder : Option ℕ → Step → Type 0
StepsInOrder o (hands es s) = InOrder o es (open_in s) × Sound s
StepsInOrder o (refuses c) = Unit {0}

content_in_order : {d : ℕ} {k : Bool} {b : ℕ} {c : Content} {w : Step} →
    d ≤ deepest → SoundContent c → barred b ≡ false → ContentStep d k b c w → StepsInOrder (Some d) w
content_in_order l s e (ContentStep.holds f) = (InOrder.nothing, (l, f))
content_in_order {d} {b = b} l s e (ContentStep.frees {h} f) = (texts_in_order d (h ++ b ∷ []) (clean_push h b (beginning_clean h s) e), (l, tt))
content_in_order l s e ContentStep.passes = (InOrder.byte e InOrder.nothing, (l, tt))

line_in_order : {d : ℕ} {k : Bool} {c : Content} {b : ℕ} {w : Step} → d ≤ deepest → SoundContent c → LineStep d k c b w → StepsInOrder (Some d) w
line_in_order l s LineStep.null = tt
line_in_order l s LineStep.line_feed = tt
line_in_order l s LineStep.return = (InOrder.nothing, (l, s))
line_in_order l s (LineStep.content e h) = content_in_order l s e h

settling_in_order : (o : Option ℕ) (d : ℕ) → d ≤ deepest → InOrder o (settling o d) (Some d)
settling_in_order None d l = InOrder.opening l InOrder.nothing
settling_in_order (Some e) d l = go (eqb e d) refl
  where
    go : (x : Bool) → eqb e d ≡ x → InOrder (Some e) (cond x [] (ended ∷ opened d ∷ [])) (Some d)
    go true h = subst (λ (n : ℕ). InOrder (Some e) [] (Some n)) (eqb-true e d h) InOrder.nothing
    go false h = InOrder.ending (InOrder.opening l InOrder.nothing)

before_in_order : (o p : Option ℕ) (es : List Event) (w : Step) → InOrder o es p → StepsInOrder p w → StepsInOrder o (with_before es w)
before_in_order o p es (hands fs s) h k = (in_order_then h k.0, k.1)
before_in_order o p es (refuses c) h k = tt

end_in_order : (d : ℕ) (k : Bool) (c : Content) → d ≤ deepest → SoundContent c → StepsInOrder (Some d) (line_end d k c)
end_in_order d k (passed true) l s = (InOrder.nothing, omega arith)
end_in_order d k (passed false) l s = (InOrder.ending InOrder.nothing, omega arith)
end_in_order d k (held h) l s = (in_order_then (go (bytes_eq h signature && k)) (in_order_then (texts_in_order d h (beginning_clean h s)) (InOrder.ending InOrder.nothing)), omega arith)
  where
    go : (x : Bool) → InOrder (Some d) (cond x (ended ∷ opened d ∷ []) []) (Some d)
    go true = InOrder.ending (InOrder.opening l InOrder.nothing)
    go false = InOrder.nothing

step_by : {s : State} {b : ℕ} {w : Step} → Sound s → Steps s b w → StepsInOrder (open_in s) w
step_by l (Steps.deeper m) = (InOrder.nothing, omega arith)
step_by l (Steps.too_deep m) = tt
step_by l (Steps.stuffing {o} {n}) = (in_order_then (settling_in_order o n l) InOrder.nothing, (l, refl))
step_by l (Steps.first {o} {n} {w = w} e h) = before_in_order o (Some n) (settling o n) w (settling_in_order o n l) (line_in_order l refl h)
step_by h (Steps.within w) = line_in_order h.0 h.1 w
step_by h Steps.null_after_cr = tt
step_by h (Steps.end {d} {k} {c}) = end_in_order d k c h.0 h.1
step_by h (Steps.no_line_feed n m) = tt

pub step_in_order : (s : State) (b : ℕ) → Sound s → StepsInOrder (open_in s) (step s b)
step_in_order s b h = step_by h (steps s b)

abbrev pub FinishesInOrder : Option ℕ → Result (List Event) Cause → Type 0
FinishesInOrder o (Ok es) = InOrder o es None
FinishesInOrder o (Err c) = Unit {0}

pub finish_in_order : (s : State) → FinishesInOrder (open_in s) (finish s)
finish_in_order (in_marks None zero) = InOrder.nothing
finish_in_order (in_marks (Some d) zero) = InOrder.ending InOrder.nothing
finish_in_order (in_marks o (suc n)) = tt
finish_in_order (in_content d k c) = tt
finish_in_order (behind_cr d k c) = tt

-- a run, and where it leaves off
abbrev Leaves : Result State Cause → Option ℕ → Type 0
Leaves (Ok s) o = (open_in s ≡ o) × Sound s
Leaves (Err c) o = Unit {0}

record RunsInOrder (o : Option ℕ) (r : Run) : Type 0 where
  open_then : Option ℕ
  so_far : InOrder o r.handed open_then
  leaves : Leaves r.left open_then

run_in_order : (s : State) (bs : List ℕ) → Sound s → RunsInOrder (open_in s) (run s bs)
run_in_order s [] h = record { open_then = open_in s; so_far = InOrder.nothing; leaves = (refl, h) }
run_in_order s (b ∷ bs) h = go (step s b) (step_in_order s b h) (λ t. run_in_order t bs)
  where
    go : (w : Step) → StepsInOrder (open_in s) w → ((t : State) → Sound t → RunsInOrder (open_in t) (run t bs)) →
        RunsInOrder (open_in s) (run_by w (λ t. run t bs))
    go (hands es t) k rest =
        let r = rest t k.1 in
        record { open_then = r.open_then; so_far = in_order_then k.0 r.so_far; leaves = r.leaves }
    go (refuses c) k rest = record { open_then = open_in s; so_far = InOrder.nothing; leaves = tt }

finished_in_order : (fs es : List Event) (o : Option ℕ) (l : Result State Cause) → InOrder None fs o → Leaves l o →
    finish_by fs l ≡ Ok es → InOrder None es None
finished_in_order fs es o (Ok s) h k = go (finish s) (subst (λ (p : Option ℕ). FinishesInOrder p (finish s)) k.0 (finish_in_order s))
  where
    go : (r : Result (List Event) Cause) → FinishesInOrder o r → behind_events fs r ≡ Ok es → InOrder None es None
    go (Ok gs) w e = let same : fs ++ gs ≡ es = cc in subst (λ (hs : List Event). InOrder None hs None) same (in_order_then h w)
    go (Err c) w e = absurd (err_ok e)
finished_in_order fs es o (Err c) h k = λ e. absurd (err_ok e)

pub handed_in_order : HandedInOrder
handed_in_order bs =
    let r = run_in_order start bs (omega arith) in
    record {
      open_then = r.open_then;
      so_far = r.so_far;
      state = λ s e. subst (λ (l : Result State Cause). Leaves l r.open_then) e r.leaves;
      finished = λ es. finished_in_order (run start bs).handed es r.open_then (run start bs).left r.so_far r.leaves;
    }
