-- The turns of taking a text byte: lines go down until what is held takes the byte.
use Rattle.std.proofs.Common.{◌≡◌, ℕ, ◌+◌, ◌<◌, ◌≤◌, false, eqb, List, [], ◌∷◌, ◌++◌, length, take, replicate, Some, None, Ok, Err, Option, Result, sym, refl, ap, ◌∙◌, append_assoc, append-nil, add-zero, arith, length-append}
use lib.ListN.{length-replicate}
use lib.Seq.{take-append-le}
use Rattle.std.proofs.lemmas.List.{replicate_more}
use Rattle.fault.specs.declared.fault.Fault.{Fault}
use Rattle.sink.specs.Sink.{Sink}
use Rattle.folding.specs.Text.{Text, space}
use Rattle.folding.specs.WireLine.{width, wire_line, wire_lines}
use Rattle.folding.specs.Folded.{Folded, after_lines}
use Rattle.folding.specs.Folding.{from_start}
use Rattle.folding.specs.Held.{Held, Valid, held_with, full}
use Rattle.folding.specs.Incremental.{held_piece, held_drop, held_join, held_space, so_far, send}
use Rattle.folding.proofs.Exceptions.{no_exception}
use Rattle.folding.proofs.HeldBreaks.{held_length}
use Rattle.folding.proofs.FromStart.{after_none, after_after}
use Rattle.folding.proofs.Sound.{short_lines}
use Rattle.folding.proofs.Tracking.{sent}
use Rattle.folding.proofs.Turns as turns
use Rattle.folding.proofs.WireLines.{wire_lines_append}
use Rattle.composer.specs.declared.held_line.HeldLine.{HeldLine}
use Rattle.composer.specs.declared.held_line.margins.Margins.{Margins}
use Rattle.composer.specs.Machine.{flowed_of, behind_lines}
use Rattle.composer.specs.Sending.{Sends}
use Rattle.composer.specs.State.{held_of, held_text}
use Rattle.composer.specs.Taking.{Takes, text_with, lines_with, counted}
use Rattle.composer.proofs.Props.{held_valid}
use Rattle.composer.proofs.Sends.{sends_none, sends_more, sends_same, sends_cut}
use Rattle.composer.proofs.Holding as holding

err_ok : {f : Fault} → ◌≡◌ {A = Result (Unit {0}) Fault} (Err f) (Ok tt) → ⊥
err_ok e = let z : ◌≡◌ {A = ℕ} 0 1 = cc in omega arith

-- the folding of what is held, with a byte behind it
abbrev pub refolded : HeldLine → ℕ → Option Folded
refolded h b = from_start h.margins.depth h.margins.width (held_with (held_of h) b)

pub valid_of : (h : HeldLine) → Valid h.margins.depth h.margins.width (held_of h)
valid_of h = held_valid h.margins.depth h.margins.width (held_of h) h.valid

-- some lines were sent, and what is held now folds to the rest
pub record Going (e l : HeldLine) (b : ℕ) (m n : Sink) (x y : List ℕ) : Type 0 where
  pub done : List Text
  pub margins : l.margins ≡ e.margins
  pub folds : refolded e b ≡ after_lines done (refolded l b)
  pub sends : Sends m n x y (wire_lines e.margins.depth done) (Ok tt)
  pub lines : l.lines ≡ e.lines + length done
  pub room : full l.margins.depth (held_of l) ≡ false
  pub less : counted l ≤ counted e

pub started : (e : HeldLine) (b : ℕ) (m : Sink) (x : List ℕ) → full e.margins.depth (held_of e) ≡ false → Going e e b m m x x
started e b m x room = record {
  done = [];
  margins = refl;
  folds = sym (after_none (refolded e b));
  sends = sends_none m x;
  lines = omega arith;
  room = room;
  less = omega arith;
}

module _ (e : HeldLine) (b : ℕ) (plain : eqb b space ≡ false) where
  -- the lines that a byte other than a space finishes
  module _ (f : Folded) (h : refolded e b ≡ Some f) where
    finished : lines_with e b ≡ f.flowed
    finished = ap flowed_of (holding.plain_folds e.margins.depth e.margins.width (held_of e) e.margins.shallow (valid_of e) b plain ∙ h)

    left : behind_lines (lines_with e b) (text_with e b) ≡ f.last
    left = holding.plain_left e.margins.depth e.margins.width (held_of e) e.margins.shallow (valid_of e) b plain f h

  module _ (l : HeldLine) (m n : Sink) (x y : List ℕ) (g : Going e l b m n x y) where
    pub cuts : (p : ℕ) → Some p ≡ held_piece l.margins.depth l.margins.width (held_of l) b → turns.Sends l.margins.depth l.margins.width (held_of l) b p
    cuts p q = turns.turn_sends l.margins.depth l.margins.width (held_of l) b l.margins.shallow l.margins.narrow plain (valid_of l) g.room p (sym q)

    pub takes : None ≡ held_piece l.margins.depth l.margins.width (held_of l) b → turns.Joins l.margins.depth l.margins.width (held_of l) b
    takes q = turns.turn_joins l.margins.depth l.margins.width (held_of l) b l.margins.shallow l.margins.narrow plain (valid_of l) g.room (sym q)

    pub within : (p : ℕ) → Some p ≡ held_piece l.margins.depth l.margins.width (held_of l) b → p ≤ length l.line.items + l.spaces
    within p q = (cuts p q).within

    -- the line of a piece
    piece_line : (p : ℕ) → p ≤ length l.line.items + l.spaces → wire_line l.margins.depth (take p (held_text (held_of l))) ≡ wire_line e.margins.depth (take p (held_with (held_of l) b))
    piece_line p k =
        let t = held_text (held_of l) in
        let long : length t ≡ length l.line.items + l.spaces = simp (length-append, length-replicate) refl in
        ap (λ (m : Margins). wire_line m.depth (take p t)) g.margins
        ∙ ap (wire_line e.margins.depth) (sym (take-append-le p t (b ∷ []) (omega arith)) ∙ ap (take p) (holding.text_with (held_of l) b))

    module _ (p : ℕ) (q : Some p ≡ held_piece l.margins.depth l.margins.width (held_of l) b) where
      abbrev piece : Text
      piece = take p (held_with (held_of l) b)

      abbrev behind : Option Folded
      behind = from_start l.margins.depth l.margins.width (held_with (held_drop p (held_of l)) b)

      on : refolded e b ≡ after_lines (g.done ++ piece ∷ []) behind
      on = g.folds ∙ ap (after_lines g.done) (cuts p q).folds ∙ sym (after_after g.done (piece ∷ []) behind)

      wire_on : wire_lines e.margins.depth g.done ++ wire_line l.margins.depth (take p (held_text (held_of l))) ≡ wire_lines e.margins.depth (g.done ++ piece ∷ [])
      wire_on =
          ap (λ (t : Text). wire_lines e.margins.depth g.done ++ t) (piece_line p (within p q) ∙ sym (append-nil (wire_line e.margins.depth piece)))
          ∙ sym (wire_lines_append e.margins.depth g.done (piece ∷ []))

      -- the line of a piece went down, and the piece was dropped
      pub turned : (r : HeldLine) (n' : Sink) (y' : List ℕ) → Sends n n' y y' (wire_line l.margins.depth (take p (held_text (held_of l)))) (Ok tt) →
          held_of r ≡ held_drop p (held_of l) → r.margins ≡ l.margins → r.lines ≡ l.lines + 1 → length r.line.items + r.spaces < length l.line.items + l.spaces →
          Going e r b m n' x y'
      turned r n' y' s h rm rl less =
          let c = cuts p q in
          record {
            done = g.done ++ piece ∷ [];
            margins = rm ∙ g.margins;
            folds = on ∙ ap (after_lines (g.done ++ piece ∷ [])) (λ i. from_start (sym rm i).depth (sym rm i).width (held_with (sym h i) b));
            sends = sends_same m n' x y' _ _ (Ok tt) wire_on (sends_more m n x y _ n' y' _ (Ok tt) g.sends s);
            lines = omega (arith, rl, g.lines, length-append g.done (piece ∷ []));
            room = (λ i. full (rm i).depth (h i)) ∙ c.room;
            less = omega (arith, rl, less, g.less);
          }

      -- it was refused
      pub cut_off : (n' : Sink) (y' : List ℕ) (f : Fault) → Sends n n' y y' (wire_line l.margins.depth (take p (held_text (held_of l)))) (Err f) → Takes e l b m n' x y' (Err f)
      cut_off n' y' f s =
          let c = cuts p q in
          let more = sent l.margins.depth l.margins.width b l.margins.shallow l.margins.narrow plain (held_drop p (held_of l)) c.valid c.room in
          let rest = so_far (send l.margins.depth l.margins.width (held_drop p (held_of l)) b) in
          let all = finished _ (on ∙ ap (after_lines (g.done ++ piece ∷ [])) more.folds) in
          record {
            sends = sends_cut m n' x y' _ (wire_lines e.margins.depth rest.flowed) _ f
                (ap (λ (t : Text). t ++ wire_lines e.margins.depth rest.flowed) wire_on ∙ sym (wire_lines_append e.margins.depth (g.done ++ piece ∷ []) rest.flowed) ∙ ap (wire_lines e.margins.depth) (sym all))
                (sends_more m n x y _ n' y' _ (Err f) g.sends s);
            margins = g.margins;
            few = omega (arith, g.less);
            held = λ z. absurd (err_ok z);
            lines = λ z. absurd (err_ok z);
          }

    -- the byte joined what is held
    pub joined_on : None ≡ held_piece l.margins.depth l.margins.width (held_of l) b → (r : HeldLine) → held_of r ≡ held_join (held_of l) b → r.margins ≡ l.margins → r.lines ≡ l.lines → Takes e r b m n x y (Ok tt)
    joined_on q r h rm rl =
        let c = takes q in
        let whole = g.folds ∙ ap (after_lines g.done) c.folds in
        let all : lines_with e b ≡ g.done = finished _ whole ∙ append-nil g.done in
        let none : r.spaces ≡ 0 = ap (λ (a : Held). a.spaces) h in
        let len : length r.line.items ≡ length (held_with (held_of l) b) = ap (λ (a : Held). length a.line) h in
        record {
          sends = sends_same m n x y _ _ (Ok tt) (ap (wire_lines e.margins.depth) (sym all)) g.sends;
          margins = rm ∙ g.margins;
          few = omega (arith, held_length (held_of l) b, g.less);
          held = λ _. (λ i. (h i).line ++ replicate (none i) space) ∙ append-nil (held_with (held_of l) b) ∙ sym (left _ whole);
          lines = λ _. rl ∙ g.lines ∙ ap (λ (ps : List Text). e.lines + length ps) (sym all);
        }

    -- what joining wants
    pub join_width : None ≡ held_piece l.margins.depth l.margins.width (held_of l) b → width l.margins.depth (held_with (held_of l) b) ≤ 998
    join_width q =
        let c = takes q in
        (short_lines l.margins.depth l.margins.width (held_with (held_of l) b) _ l.margins.shallow l.margins.narrow (no_exception l.margins.depth l.margins.width l.margins.shallow (held_with (held_of l) b) ∙ c.folds)).0

    pub join_short : None ≡ held_piece l.margins.depth l.margins.width (held_of l) b → length l.line.items + l.spaces + 1 ≤ 998
    join_short q = omega (arith, (takes q).short)

-- a space finishes no line
pub space_taken : (e r : HeldLine) (b : ℕ) (m : Sink) (x : List ℕ) → b ≡ space → held_of r ≡ held_space (held_of e) → r.margins ≡ e.margins → r.lines ≡ e.lines → Takes e r b m m x x (Ok tt)
space_taken e r b m x s h rm rl =
    let none : lines_with e b ≡ [] =
    ap (λ (c : ℕ). lines_with e c) s
    ∙ ap flowed_of (holding.space_folds e.margins.depth e.margins.width (held_of e) e.margins.shallow (valid_of e) e.short) in
    let spaces : r.spaces ≡ e.spaces + 1 = ap (λ (a : Held). a.spaces) h in
    let len : length r.line.items ≡ length e.line.items = ap (λ (a : Held). length a.line) h in
    record {
      sends = sends_same m m x x _ _ (Ok tt) (ap (wire_lines e.margins.depth) (sym none)) (sends_none m x);
      margins = rm;
      few = omega arith;
      held = λ _.
          ap held_text h
          ∙ ap (λ (t : Text). (held_of e).line ++ t) (sym (replicate_more e.spaces space))
          ∙ sym (append_assoc (held_of e).line (replicate e.spaces space) (space ∷ []))
          ∙ ap (λ (c : ℕ). text_with e c) (sym s)
          ∙ ap (λ (ps : List Text). behind_lines ps (text_with e b)) (sym none);
      lines = λ _. rl ∙ sym (add-zero e.lines) ∙ ap (λ (ps : List Text). e.lines + length ps) (sym none);
    }
