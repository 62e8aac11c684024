-- A new composer sends the wire bytes of the paragraphs that it is given.
use Rattle.std.proofs.Common.{◌≡◌, ℕ, ◌+◌, ◌<◌, ◌≤◌, min, Bool, true, false, not, ◌&&◌, leb, ◌↔◌, List, [], ◌∷◌, ◌++◌, length, is_some, Some, None, Option, sym, refl, ap, ◌∙◌, subst, append-nil, arith, length-append}
use Rattle.std.specs.List.{AllByRecursion}
use Rattle.std.proofs.lemmas.Bool.{lt-leb, le-leb}
use Rattle.fault.specs.declared.fault.Fault.{Fault}
use Rattle.fault.specs.declared.cause.Cause.{Cause}
use Rattle.fault.specs.declared.cause.Cause.TheVariants.{BarredByte, OverLimit, NoFolding}
use Rattle.fault.specs.declared.layer.Layer.TheVariants.{Composer}
use Rattle.fault.specs.Faults.{own, most}
use Rattle.fault.specs.Answers.{raised}
use Rattle.orders.specs.declared.phase.Phase.TheVariants.{Running}
use Rattle.orders.specs.Meaning.{Added, later_all}
use Rattle.orders.proofs.Sending.{closing}
use Rattle.sink.specs.Sink.{Sink, down}
use Rattle.taker.specs.Paragraph.{Order, opens, texts, ends, gives_up, finishes, paragraphs, text_orders, Taker}
use Rattle.layer.specs.Layer.{Move, sends, moved, layer_means}
use Rattle.layer.proofs.Wiring.{wire_adds}
use Rattle.folding.specs.Text.{Text, trimmed, settled, settled_behind}
use Rattle.folding.specs.WireLine.{wire_lines}
use Rattle.folding.specs.Folded.{Folded, pieces}
use Rattle.folding.specs.Folding.{folding}
use Rattle.folding.proofs.Constructors.{same_some, some_none}
use Rattle.folding.proofs.Agreeing.{settled_none}
use Rattle.composer.specs.Machine.{Composing, limit, barred, refuse_if, lacks_folding, text_refusal, behind_lines, bytes_of, next_state, moves, unless, composer, end_tells, start}
use Rattle.composer.specs.Composers.{good_start, born, new_means}
use Rattle.composer.specs.Mails.{Paragraph, Writable, begun, given, wires, text_length, as_place, SendsEnded, SendsOpen, Composes}
use Rattle.composer.proofs.Histories.{Steps, steps_append, steps_wire, steps_whole, steps_goes, steps_going, steps_state, steps_run, place_after}
use Rattle.composer.proofs.TextSteps.{text_state, open_at, lacks_folding_is, text_step, end_folds}
use Rattle.composer.proofs.MailSteps.{begun_steps, mail_steps}

-- a fault from below is not of level 0
below_own : (x : Option Fault) (c : Cause) (n : ℕ) → raised x ≡ Some (own c Composer n) → ⊥
below_own None c n e = some_none (sym e)
below_own (Some g) c n e = let z : min (g.level + 1) most ≡ 0 = ap (λ (f : Fault). f.level) (same_some e) in omega arith

-- how many text bytes are among orders
abbrev texts_in : List Order → ℕ
texts_in [] = 0
texts_in (opens d ∷ os) = texts_in os
texts_in (texts b ∷ os) = 1 + texts_in os
texts_in (ends i ∷ os) = texts_in os
texts_in (gives_up i ∷ os) = texts_in os
texts_in (finishes ∷ os) = texts_in os

places : (os : List Order) (n : ℕ) → n ≤ most → place_after paragraphs n os ≡ min (n + texts_in os) most
places [] n l = omega arith
places (opens d ∷ os) n l = places os n l
places (texts b ∷ os) n l = places os (min (n + 1) most) (omega arith) ∙ omega arith
places (ends i ∷ os) n l = places os n l
places (gives_up i ∷ os) n l = places os n l
places (finishes ∷ os) n l = places os n l

texts_append : (p q : List Order) → texts_in (p ++ q) ≡ texts_in p + texts_in q
texts_append [] q = omega arith
texts_append (opens d ∷ p) q = texts_append p q
texts_append (texts b ∷ p) q = omega (arith, texts_append p q)
texts_append (ends i ∷ p) q = texts_append p q
texts_append (gives_up i ∷ p) q = texts_append p q
texts_append (finishes ∷ p) q = texts_append p q

text_texts : (t : Text) → texts_in (text_orders t) ≡ length t
text_texts [] = refl
text_texts (b ∷ t) = omega (arith, text_texts t)

given_texts : (ps : List Paragraph) (n : ℕ) → texts_in (given n ps) ≡ text_length ps
given_texts [] n = refl
given_texts (p ∷ ps) n = omega (arith, texts_append (begun p ++ ends n ∷ []) (given (n + 1) ps), texts_append (begun p) (ends n ∷ []), text_texts p.text, given_texts ps (n + 1))

module _ (w : ℕ) (narrow : w ≤ 998) (m : Sink) where
  abbrev new : Taker ℕ
  new = layer_means composer m (start w) Running 0

  module _ (ps : List Paragraph) (cs : Text) (oks : AllByRecursion Writable ps) (q : wires w ps ≡ Some cs) where
    ended : length ps ≤ limit → SendsEnded m new ps cs
    ended few =
        let x = mail_steps w narrow ps 0 cs oks (omega arith) q in
        record {
          so_far = wire_adds composer (given 1 ps) false (steps_goes composer x) 0 (start w) m.adds cs (steps_whole composer x);
          finished = wire_adds composer (given 1 ps ++ finishes ∷ []) true (steps_going composer x (closing refl)) 0 (start w) m.adds cs (steps_wire composer x (finishes ∷ []) ∙ ap Some (append-nil cs));
        }

    module _ (few : length ps < limit) (p : Paragraph) (f : Folded) (ok : Writable p) (e : folding p.depth w (trimmed p.text) ≡ Some f) where
      abbrev os : List Order
      os = given 1 ps ++ begun p

      abbrev sent : Text
      sent = cs ++ wire_lines p.depth f.flowed

      abbrev here : Composing
      here = open_at w (0 + length ps + 1) p.depth p.text f

      abbrev here_place : ℕ
      here_place = as_place (text_length ps + length p.text)

      steps : Steps composer (start w) os sent here
      steps = steps_append composer (mail_steps w narrow ps 0 cs oks (omega arith) q) (begun_steps w narrow (0 + length ps) p f ok (omega arith) e)

      place : place_after paragraphs 0 os ≡ here_place
      place = places os 0 (omega arith) ∙ ap (λ (n : ℕ). min n most) (omega (arith, texts_append (given 1 ps) (begun p), given_texts ps 1, text_texts p.text))

      refused : (b : ℕ) → barred b ≡ false → length p.text < limit → folding p.depth w (settled (p.text ++ b ∷ [])) ≡ None ↔ new.adds os (texts b) ≡ record { items = []; fault = Some (own NoFolding Composer here_place) }
      refused b text short = (to, from)
        where
          adds : new.adds os (texts b) ≡ moved composer (moves here (texts b)) false here_place (later_all (down sent false) m.adds)
          adds = steps_run composer steps 0 m.adds (texts b) ∙ ap (λ (n : ℕ). moved composer (moves here (texts b)) false n (later_all (down sent false) m.adds)) place

          to : folding p.depth w (settled (p.text ++ b ∷ [])) ≡ None → new.adds os (texts b) ≡ record { items = []; fault = Some (own NoFolding Composer here_place) }
          to n =
              let folds : lacks_folding w (text_state p.depth p.text f) b ≡ true = lacks_folding_is p.depth w ok.shallow p.text f e b ∙ ap (λ (o : Option Folded). not (is_some o)) n in
              let under : leb limit (length p.text) ≡ false = lt-leb limit (length p.text) short in
              let stop : text_refusal w b (Some (text_state p.depth p.text f)) ≡ Some NoFolding = λ i. refuse_if (text i) BarredByte (refuse_if (under i) OverLimit (refuse_if (folds i) NoFolding None)) in
              adds ∙ ap (λ (r : Option Cause). moved composer (unless r (sends (bytes_of here (texts b)) (next_state here (texts b)))) false here_place (later_all (down sent false) m.adds)) stop

          from : new.adds os (texts b) ≡ record { items = []; fault = Some (own NoFolding Composer here_place) } → folding p.depth w (settled (p.text ++ b ∷ [])) ≡ None
          from h = (settled_none p.depth w ok.shallow (p.text ++ b ∷ [])).1 (go (folding p.depth w (trimmed (p.text ++ b ∷ []))) refl)
            where
              go : (o : Option Folded) → folding p.depth w (trimmed (p.text ++ b ∷ [])) ≡ o → folding p.depth w (trimmed (p.text ++ b ∷ [])) ≡ None
              go None i = i
              go (Some g) i =
                  let one = text_step p.depth w ok.shallow p.text f e (0 + length ps + 1) b text short g i in
                  let on = adds ∙ ap (λ (mv : Move Composing). moved composer mv false here_place (later_all (down sent false) m.adds)) one in
                  absurd (below_own _ NoFolding here_place (ap (λ (x : Added ℕ). x.fault) (sym on ∙ h)))

      lines : (g : Folded) → folding p.depth w (settled p.text) ≡ Some g → new.says os (ends (length ps + 1)) ≡ length (pieces g)
      lines g i =
          let same = same_some (sym (end_folds p.depth w ok.shallow narrow p.text f e) ∙ i) in
          let last = settled_behind (length f.flowed) (behind_lines f.flowed p.text) in
          ap (λ (s : Composing). end_tells s.paragraph) (steps_state composer steps)
          ∙ sym (length-append f.flowed (last ∷ []))
          ∙ ap (λ (x : Folded). length (pieces x)) same

      unended : SendsOpen w m new ps cs p f
      unended = record {
        so_far = wire_adds composer os false (steps_goes composer steps) 0 (start w) m.adds sent (steps_whole composer steps);
        refused = refused;
        lines = lines;
      }

  pub composes : Composes w m new
  composes = record {
    ended = λ ps cs oks few q. ended ps cs oks q few;
    unended = λ ps cs oks few q p f ok e. unended ps cs oks q few p f ok e;
  }

pub new_composes : (w : ℕ) (m : Sink) (c : Taker ℕ) → c ≡ new_means w m → 20 ≤ w → w ≤ 998 → m.fresh ≡ true → Composes w m c
new_composes w m c e wide narrow fresh =
    let good : good_start w m.fresh ≡ true = λ i. le-leb 20 w wide i && le-leb w 998 narrow i && fresh i in
    subst (Composes w m) (sym (e ∙ ap (λ (x : Bool). layer_means composer m (start w) (born x) 0) good)) (composes w narrow m)
