-- Whole paragraphs, one after another.
use Rattle.std.proofs.Common.{◌≡◌, ℕ, ◌+◌, ◌<◌, ◌≤◌, Bool, not, ltb, leb, List, [], ◌∷◌, ◌++◌, length, Some, None, Option, sym, refl, ap, ◌∙◌, subst, arith}
use Rattle.std.specs.List.{AllByRecursion}
use Rattle.std.proofs.lemmas.Bool.{lt-leb, le-ltb, eq-eqb}
use Rattle.fault.specs.declared.cause.Cause.{Cause}
use Rattle.fault.specs.declared.cause.Cause.TheVariants.{TooDeep, OverLimit, WrongNumber}
use Rattle.taker.specs.Paragraph.{opens, ends, text_orders}
use Rattle.layer.specs.Layer.{sends}
use Rattle.folding.specs.Text.{Text, trimmed, settled_behind}
use Rattle.folding.specs.WireLine.{wire_line, wire_lines}
use Rattle.folding.specs.Folded.{Folded, one_line, wired}
use Rattle.folding.specs.Folding.{folding, wire}
use Rattle.folding.proofs.Constructors.{same_some, some_none}
use Rattle.folding.proofs.Agreeing.{settled_none}
use Rattle.folding.proofs.WireLines.{wire_lines_append}
use Rattle.composer.specs.Machine.{Composing, deepest, limit, refuse_if, behind_lines, bytes_of, next_state, moves, unless, composer}
use Rattle.composer.specs.Mails.{Paragraph, Writable, begun, given, then_wire, wires}
use Rattle.composer.proofs.Histories.{Steps, step, steps_append}
use Rattle.composer.proofs.Histories as histories
use Rattle.composer.proofs.TextSteps.{open_at, text_steps, end_folds}

-- none open, after n
abbrev pub between_at : ℕ → ℕ → Composing
between_at w n = record { width = w; opened = n; paragraph = None }

pub open_step : (w n d : ℕ) → d ≤ deepest → n < limit → moves (between_at w n) (opens d) ≡ sends [] (open_at w (n + 1) d [] (one_line []))
open_step w n d small few =
    let shallow = le-ltb deepest d small in
    let under = lt-leb limit n few in
    let none : refuse_if (ltb deepest d) TooDeep (refuse_if (leb limit n) OverLimit None) ≡ None = λ i. refuse_if (shallow i) TooDeep (refuse_if (under i) OverLimit None) in
    ap (λ (x : Option Cause). unless x (sends [] (next_state (between_at w n) (opens d)))) none

pub end_step : (w n d : ℕ) (t : Text) (f : Folded) → moves (open_at w n d t f) (ends n) ≡ sends (wire_line d (settled_behind (length f.flowed) (behind_lines f.flowed t))) (between_at w n)
end_step w n d t f =
    let s = open_at w n d t f in
    ap (λ (x : Bool). unless (refuse_if (not x) WrongNumber None) (sends (bytes_of s (ends n)) (next_state s (ends n)))) (eq-eqb n n refl)

module _ (w : ℕ) (narrow : w ≤ 998) where
  -- a paragraph opened, with its text so far
  pub begun_steps : (n : ℕ) (p : Paragraph) (f : Folded) → Writable p → n < limit → folding p.depth w (trimmed p.text) ≡ Some f →
      Steps composer (between_at w n) (begun p) (wire_lines p.depth f.flowed) (open_at w (n + 1) p.depth p.text f)
  begun_steps n p f ok few e =
      let r = text_steps p.depth w ok.shallow (n + 1) p.text [] (one_line []) f refl e ok.plain ok.short in
      let d = p.depth in
      step (open_step w n d ok.shallow few) refl (subst (λ (l : List Text). Steps composer (open_at w (n + 1) d [] (one_line [])) (text_orders p.text) (wire_lines d l) (open_at w (n + 1) d p.text f)) (sym r.lines) r.steps)

  -- and ended
  pub paragraph_steps : (n : ℕ) (p : Paragraph) (cs : Text) → Writable p → n < limit → wire p.depth w p.text ≡ Some cs →
      Steps composer (between_at w n) (begun p ++ ends (n + 1) ∷ []) cs (between_at w (n + 1))
  paragraph_steps n p cs ok few q = go (folding d w (trimmed t)) refl
    where
      d : ℕ
      d = p.depth

      t : Text
      t = p.text

      go : (o : Option Folded) → folding p.depth w (trimmed p.text) ≡ o → Steps composer (between_at w n) (begun p ++ ends (n + 1) ∷ []) cs (between_at w (n + 1))
      go None e = absurd (some_none (sym q ∙ ap (wired p.depth) ((settled_none p.depth w ok.shallow p.text).1 e)))
      go (Some f) e =
          let last = settled_behind (length f.flowed) (behind_lines f.flowed p.text) in
          let whole = ap (wired p.depth) (end_folds p.depth w ok.shallow narrow p.text f e) in
          let bytes : wire_lines p.depth (f.flowed ++ last ∷ []) ≡ cs = same_some (sym whole ∙ q) in
          let one = begun_steps n p f ok few e in
          let end = step (end_step w (n + 1) p.depth p.text f) refl histories.start in
          subst (λ (l : Text). Steps composer (between_at w n) (begun p ++ ends (n + 1) ∷ []) l (between_at w (n + 1))) (sym (wire_lines_append p.depth f.flowed (last ∷ [])) ∙ bytes) (steps_append composer one end)

  pub mail_steps : (ps : List Paragraph) (n : ℕ) (cs : Text) → AllByRecursion Writable ps → n + length ps ≤ limit → wires w ps ≡ Some cs → Steps composer (between_at w n) (given (n + 1) ps) cs (between_at w (n + length ps))
  mail_steps [] n cs ok few q =
      let none : [] ≡ cs = same_some q in
      let same : n ≡ n + 0 = omega arith in
      subst (λ (l : Text). Steps composer (between_at w n) [] l (between_at w (n + 0))) none (subst (λ (k : ℕ). Steps composer (between_at w n) [] [] (between_at w k)) same histories.start)
  mail_steps (p ∷ ps) n cs (ok, oks) few q = go (wire p.depth w p.text) refl (wires w ps) refl q (λ b. mail_steps ps (n + 1) b oks (omega arith))
    where
      go : (x : Option Text) → wire p.depth w p.text ≡ x → (y : Option Text) → wires w ps ≡ y → then_wire x y ≡ Some cs →
          ((b : Text) → wires w ps ≡ Some b → Steps composer (between_at w (n + 1)) (given (n + 1 + 1) ps) b (between_at w (n + 1 + length ps))) →
          Steps composer (between_at w n) (given (n + 1) (p ∷ ps)) cs (between_at w (n + length (p ∷ ps)))
      go None i y j h rest = absurd (some_none (sym h))
      go (Some a) i None j h rest = absurd (some_none (sym h))
      go (Some a) i (Some b) j h rest =
          let all : a ++ b ≡ cs = same_some h in
          let many : n + 1 + length ps ≡ n + length (p ∷ ps) = omega arith in
          let one = paragraph_steps n p a ok (omega arith) i in
          subst (λ (l : Text). Steps composer (between_at w n) (given (n + 1) (p ∷ ps)) l (between_at w (n + length (p ∷ ps)))) all
          (subst (λ (k : ℕ). Steps composer (between_at w n) (given (n + 1) (p ∷ ps)) (a ++ b) (between_at w k)) many (steps_append composer one (rest b j)))
