-- The steps of the machine, a rule each.
use Rattle.std.proofs.Common.{◌≡◌, ℕ, ◌+◌, ◌<◌, ◌≤◌, Bool, true, false, cond, eqb, ltb, [], ◌∷◌, ◌++◌, Option, sym, refl, subst}
use Rattle.std.proofs.lemmas.Bool.{eqb-true, eqb-false, ltb-true, ltb-false}
use Rattle.fault.specs.declared.cause.Cause.TheVariants.{TooDeep, BarredByte, Unpaired}
use Rattle.taker.specs.Paragraph.{barred, deepest}
use Rattle.folding.specs.Text.{Text, space, signature}
use Rattle.folding.specs.WireLine.{quote_mark}
use Rattle.reading.specs.Events.{text, texts}
use Rattle.reading.specs.Machine.{Content, held, passed, State, in_marks, in_content, behind_cr, Step, hands, refuses, beginning_of, content_byte, line_byte, with_before, settling, goes_on, first_byte, line_end, step}
use Rattle.reading.proofs.Cleaning.{unlike_unbarred}

-- a byte of content: it is held, lets go what is held, or passes
pub data ContentStep (d : ℕ) (k : Bool) (b : ℕ) : Content → Step → Type 0 where
  holds : {h : Text} → beginning_of (h ++ b ∷ []) signature ≡ true → ContentStep d k b (held h) (hands [] (in_content d k (held (h ++ b ∷ []))))
  frees : {h : Text} → beginning_of (h ++ b ∷ []) signature ≡ false → ContentStep d k b (held h) (hands (texts (h ++ b ∷ [])) (in_content d k (passed (eqb b space))))
  passes : {s : Bool} → ContentStep d k b (passed s) (hands (text b ∷ []) (in_content d k (passed (eqb b space))))

pub content_step : (d : ℕ) (k : Bool) (b : ℕ) (c : Content) → ContentStep d k b c (content_byte d k c b)
content_step d k b (held h) = go (beginning_of (h ++ b ∷ []) signature) refl
  where
    go : (x : Bool) → beginning_of (h ++ b ∷ []) signature ≡ x →
        ContentStep d k b (held h) (cond x (hands [] (in_content d k (held (h ++ b ∷ [])))) (hands (texts (h ++ b ∷ [])) (in_content d k (passed (eqb b space)))))
    go true e = ContentStep.holds e
    go false e = ContentStep.frees e
content_step d k b (passed s) = ContentStep.passes

-- a byte of a line whose depth is settled
pub data LineStep (d : ℕ) (k : Bool) (c : Content) : ℕ → Step → Type 0 where
  null : LineStep d k c 0x00 (refuses BarredByte)
  line_feed : LineStep d k c 0x0A (refuses Unpaired)
  return : LineStep d k c 0x0D (hands [] (behind_cr d k c))
  content : {b : ℕ} {w : Step} → barred b ≡ false → ContentStep d k b c w → LineStep d k c b w

pub line_step : (d : ℕ) (k : Bool) (c : Content) (b : ℕ) → LineStep d k c b (line_byte d k c b)
line_step d k c b = go (eqb b 0) refl (eqb b 0x0A) refl (eqb b 0x0D) refl
  where
    go : (x : Bool) → eqb b 0 ≡ x → (y : Bool) → eqb b 0x0A ≡ y → (z : Bool) → eqb b 0x0D ≡ z →
        LineStep d k c b (cond x (refuses BarredByte) (cond y (refuses Unpaired) (cond z (hands [] (behind_cr d k c)) (content_byte d k c b))))
    go true e y f z g = subst (λ (n : ℕ). LineStep d k c n (refuses BarredByte)) (sym (eqb-true b 0 e)) LineStep.null
    go false e true f z g = subst (λ (n : ℕ). LineStep d k c n (refuses Unpaired)) (sym (eqb-true b 0x0A f)) LineStep.line_feed
    go false e false f true g = subst (λ (n : ℕ). LineStep d k c n (hands [] (behind_cr d k c))) (sym (eqb-true b 0x0D g)) LineStep.return
    go false e false f false g = LineStep.content (unlike_unbarred b (record { null = e; line_feed = f; return = g })) (content_step d k b c)

-- any byte
pub data Steps : State → ℕ → Step → Type 0 where
  deeper : {o : Option ℕ} {n : ℕ} → n < deepest → Steps (in_marks o n) quote_mark (hands [] (in_marks o (n + 1)))
  too_deep : {o : Option ℕ} {n : ℕ} → deepest ≤ n → Steps (in_marks o n) quote_mark (refuses TooDeep)
  stuffing : {o : Option ℕ} {n : ℕ} → Steps (in_marks o n) space (hands (settling o n ++ []) (in_content n (goes_on o n) (held [])))
  first : {o : Option ℕ} {n b : ℕ} {w : Step} → eqb b quote_mark ≡ false → LineStep n (goes_on o n) (held []) b w → Steps (in_marks o n) b (with_before (settling o n) w)
  within : {d : ℕ} {k : Bool} {c : Content} {b : ℕ} {w : Step} → LineStep d k c b w → Steps (in_content d k c) b w
  null_after_cr : {d : ℕ} {k : Bool} {c : Content} → Steps (behind_cr d k c) 0x00 (refuses BarredByte)
  end : {d : ℕ} {k : Bool} {c : Content} → Steps (behind_cr d k c) 0x0A (line_end d k c)
  no_line_feed : {d : ℕ} {k : Bool} {c : Content} {b : ℕ} → (b ≡ 0x00 → ⊥) → (b ≡ 0x0A → ⊥) → Steps (behind_cr d k c) b (refuses Unpaired)

first_step : (o : Option ℕ) (n b : ℕ) → eqb b quote_mark ≡ false → Steps (in_marks o n) b (first_byte o n b)
first_step o n b e = go (eqb b space) refl
  where
    go : (x : Bool) → eqb b space ≡ x →
        Steps (in_marks o n) b (with_before (settling o n) (cond x (hands [] (in_content n (goes_on o n) (held []))) (line_byte n (goes_on o n) (held []) b)))
    go true f = subst (λ (m : ℕ). Steps (in_marks o n) m (hands (settling o n ++ []) (in_content n (goes_on o n) (held [])))) (sym (eqb-true b space f)) Steps.stuffing
    go false f = Steps.first e (line_step n (goes_on o n) (held []) b)

pub steps : (s : State) (b : ℕ) → Steps s b (step s b)
steps (in_marks o n) b = go (eqb b quote_mark) refl (ltb n deepest) refl
  where
    go : (x : Bool) → eqb b quote_mark ≡ x → (y : Bool) → ltb n deepest ≡ y →
        Steps (in_marks o n) b (cond x (cond y (hands [] (in_marks o (n + 1))) (refuses TooDeep)) (first_byte o n b))
    go true e true f = subst (λ (m : ℕ). Steps (in_marks o n) m (hands [] (in_marks o (n + 1)))) (sym (eqb-true b quote_mark e)) (Steps.deeper (ltb-true n deepest f))
    go true e false f = subst (λ (m : ℕ). Steps (in_marks o n) m (refuses TooDeep)) (sym (eqb-true b quote_mark e)) (Steps.too_deep (ltb-false n deepest f))
    go false e y f = first_step o n b e
steps (in_content d k c) b = Steps.within (line_step d k c b)
steps (behind_cr d k c) b = go (eqb b 0) refl (eqb b 0x0A) refl
  where
    go : (x : Bool) → eqb b 0 ≡ x → (y : Bool) → eqb b 0x0A ≡ y → Steps (behind_cr d k c) b (cond x (refuses BarredByte) (cond y (line_end d k c) (refuses Unpaired)))
    go true e y f = subst (λ (n : ℕ). Steps (behind_cr d k c) n (refuses BarredByte)) (sym (eqb-true b 0 e)) Steps.null_after_cr
    go false e true f = subst (λ (n : ℕ). Steps (behind_cr d k c) n (line_end d k c)) (sym (eqb-true b 0x0A f)) Steps.end
    go false e false f = Steps.no_line_feed (eqb-false b 0 e) (eqb-false b 0x0A f)
