-- A composer moves as the rules state for the mail that it accepted.
use Rattle.std.proofs.Common.{◌≡◌, ℕ, ◌+◌, ◌<◌, ◌≤◌, Bool, true, false, not, eqb, ltb, leb, List, [], ◌∷◌, ◌++◌, length, is_some, Some, None, Option, sym, refl, ap, ◌∙◌, ap₂, append_assoc, append-nil, arith, length-append, ltb-false, eqb-true, leb-false}
use Rattle.std.specs.List.{AllByRecursion}
use Rattle.std.proofs.ByRecursion.{All-push}
use Rattle.reading.proofs.Joins.{joined_append}
use Rattle.sink.specs.Sink.{Sink}
use Rattle.fault.specs.declared.cause.Cause.{Cause}
use Rattle.fault.specs.declared.cause.Cause.TheVariants.{TooDeep, BarredByte, OverLimit, NoFolding, WrongNumber, GivenUp}
use Rattle.orders.specs.Steps.{place_on}
use Rattle.taker.specs.Paragraph.{Order, opens, texts, ends, gives_up, finishes, closes, counts, barred, deepest}
use Rattle.taker.specs.Mail.{Paragraph}
use Rattle.layer.specs.Layer.{sends, stops}
use Rattle.folding.specs.Text.{Text, trimmed, settled, settled_behind}
use Rattle.folding.specs.WireLine.{wire_line, wire_lines}
use Rattle.folding.specs.Folded.{Folded, one_line}
use Rattle.folding.specs.Folding.{folding}
use Rattle.folding.proofs.Constructors.{some_none}
use Rattle.folding.proofs.Agreeing.{settled_none}
use Rattle.folding.proofs.WireLines.{wire_lines_append}
use Rattle.composer.specs.Machine.{Within, Composing, limit, refuse_if, lacks_folding, flowed_of, finished_lines, behind_lines, refusal, bytes_of, next_state, moves, unless, tells}
use Rattle.composer.specs.Mails.{Writable, text_length}
use Rattle.composer.proofs.TextSteps.{open_at, lacks_folding_is, onward, text_step, end_folds}
use Rattle.composer.proofs.MailSteps.{between_at, open_step, end_step}
use Rattle.conversation.specs.Mail.{Mail, pieces_of, lines_of, lines_so_far, ended_bytes, bytes_for, place_for, mail_with}
use Rattle.conversation.specs.Rules.{own_cause, value_for}

abbrev pub within_by : Paragraph → List Text → Within
within_by p ls = record { depth = p.depth; held = behind_lines ls p.text; lines = length ls; bytes = length p.text }

-- the machine's state for a mail whose ended paragraphs are n
abbrev pub state_at : ℕ → ℕ → Option Paragraph → Composing
state_at w n None = between_at w n
state_at w n (Some p) = record { width = w; opened = n + 1; paragraph = Some (within_by p (lines_so_far w p)) }

abbrev pub state_for : ℕ → Mail → Composing
state_for w m = state_at w (length m.ended) m.begun

-- an ended paragraph, and one that is open behind n
pub record EndedOk (w : ℕ) (p : Paragraph) : Type 0 where
  pub ok : Writable p
  pub folded : Folded
  pub folds : folding p.depth w (settled p.text) ≡ Some folded

pub record Opened (w n : ℕ) (p : Paragraph) : Type 0 where
  pub ok : Writable p
  pub folded : Folded
  pub folds : folding p.depth w (trimmed p.text) ≡ Some folded
  pub room : n < limit

abbrev pub OpenOk : ℕ → ℕ → Option Paragraph → Type 0
OpenOk w n None = Unit {0}
OpenOk w n (Some p) = Opened w n p

-- what holds of every mail that was accepted
pub record MailOk (w : ℕ) (m : Mail) : Type 0 where
  pub ended : AllByRecursion (EndedOk w) m.ended
  pub few : length m.ended ≤ limit
  pub begun : OpenOk w (length m.ended) m.begun

-- an order that the composer does not refuse itself
pub record MovesOn (w : ℕ) (m : Mail) (o : Order) : Type 0 where
  pub bs : List ℕ
  pub move : moves (state_for w m) o ≡ sends bs (state_for w (mail_with m o))
  pub bytes : bytes_for w (mail_with m o) ≡ bytes_for w m ++ bs
  pub ok : MailOk w (mail_with m o)
  pub place : place_on (counts o) (place_for m) ≡ place_for (mail_with m o)

module _ (w : ℕ) where
  open_state : (n : ℕ) (p : Paragraph) (k : Opened w n p) → state_at w n (Some p) ≡ open_at w (n + 1) p.depth p.text k.folded
  open_state n p k = ap (λ (o : Option Folded). record { width = w; opened = n + 1; paragraph = Some (within_by p (flowed_of o)) }) k.folds

  lacks_is : (n : ℕ) (p : Paragraph) → Opened w n p → (b : ℕ) → lacks_folding w (within_by p (lines_so_far w p)) b ≡ not (is_some (folding p.depth w (settled (p.text ++ b ∷ []))))
  lacks_is n p k b =
      ap (λ (o : Option Folded). lacks_folding w (within_by p (flowed_of o)) b) k.folds
      ∙ lacks_folding_is p.depth w k.ok.shallow p.text k.folded k.folds b

  refuses_so : (ps : List Paragraph) (b : Option Paragraph) → OpenOk w (length ps) b → (o : Order) → refusal (state_at w (length ps) b) o ≡ own_cause w (record { ended = ps; begun = b }) o
  refuses_so ps None k (opens d) = refl
  refuses_so ps (Some p) k (opens d) = refl
  refuses_so ps None k (texts c) = refl
  refuses_so ps (Some p) k (texts c) = ap (λ (x : Bool). refuse_if (barred c) BarredByte (refuse_if (leb limit (length p.text)) OverLimit (refuse_if x NoFolding None))) (lacks_is (length ps) p k c)
  refuses_so ps None k (ends i) = refl
  refuses_so ps (Some p) k (ends i) = refl
  refuses_so ps None k (gives_up i) = refl
  refuses_so ps (Some p) k (gives_up i) = refl
  refuses_so ps None k finishes = refl
  refuses_so ps (Some p) k finishes = refl

  -- the machine refuses what the rules refuse
  pub refuses_as_ruled : (m : Mail) → MailOk w m → (o : Order) → refusal (state_for w m) o ≡ own_cause w m o
  refuses_as_ruled m k o = refuses_so m.ended m.begun k.begun o

  pub stops_as_ruled : (m : Mail) → MailOk w m → (o : Order) (c : Cause) → own_cause w m o ≡ Some c → moves (state_for w m) o ≡ stops c
  stops_as_ruled m k o c e = ap (λ (r : Option Cause). unless r (sends (bytes_of (state_for w m) o) (next_state (state_for w m) o))) (refuses_as_ruled m k o ∙ e)

-- what a refusal that is none tells
passes : (x : Bool) (c : Cause) (r : Option Cause) → refuse_if x c r ≡ None → (x ≡ false) × (r ≡ None)
passes true c r e = absurd (some_none e)
passes false c r e = (refl, e)

not_false : (x : Bool) → not x ≡ false → x ≡ true
not_false true e = refl
not_false false e = sym e

pub length_push : (ps : List Paragraph) (p : Paragraph) → length (ps ++ p ∷ []) ≡ length ps + 1
length_push ps p = length-append ps (p ∷ [])

text_length_push : (ps : List Paragraph) (p : Paragraph) → text_length (ps ++ p ∷ []) ≡ text_length ps + length p.text
text_length_push [] p = omega arith
text_length_push (q ∷ ps) p = let ih = text_length_push ps p in omega arith

module _ (w : ℕ) (narrow : w ≤ 998) (ps : List Paragraph) (oks : AllByRecursion (EndedOk w) ps) where
  abbrev n : ℕ
  n = length ps

  abbrev sent : Text
  sent = ended_bytes w ps

  open_on : (d : ℕ) → own_cause w (record { ended = ps; begun = None }) (opens d) ≡ None → MovesOn w (record { ended = ps; begun = None }) (opens d)
  open_on d e =
      let a = passes (ltb deepest d) TooDeep (refuse_if (leb limit n) OverLimit None) e in
      let b = passes (leb limit n) OverLimit None a.1 in
      let small = ltb-false deepest d a.0 in
      let few = leb-false limit n b.0 in
      record {
        bs = [];
        move = open_step w n d small few;
        bytes = sym (append-nil (sent ++ []));
        ok = record {
          ended = oks;
          few = omega arith;
          begun = record { ok = record { shallow = small; plain = tt; short = omega arith }; folded = one_line []; folds = refl; room = few };
        };
        place = refl;
      }

  finish_on : n ≤ limit → MovesOn w (record { ended = ps; begun = None }) finishes
  finish_on few = record {
    bs = [];
    move = refl;
    bytes = sym (append-nil (sent ++ []));
    ok = record { ended = oks; few = few; begun = tt };
    place = refl;
  }

  module _ (p : Paragraph) (k : Opened w n p) where
    abbrev d : ℕ
    d = p.depth

    abbrev t : Text
    t = p.text

    abbrev f : Folded
    f = k.folded

    abbrev here : Mail
    here = record { ended = ps; begun = Some p }

    text_onto : (b : ℕ) → barred b ≡ false → length t < limit → (g : Folded) → folding d w (trimmed (t ++ b ∷ [])) ≡ Some g → MovesOn w here (texts b)
    text_onto b text short g q =
        let p' : Paragraph = record { depth = d; text = t ++ b ∷ [] } in
        let long : length (t ++ b ∷ []) ≡ length t + 1 = length-append t (b ∷ []) in
        let k' : Opened w n p' = record { ok = record { shallow = k.ok.shallow; plain = All-push (λ (x : ℕ). barred x ≡ false) t b k.ok.plain text; short = omega arith }; folded = g; folds = q; room = k.room } in
        let ls = finished_lines d w (behind_lines f.flowed t ++ b ∷ []) in
        let on = onward d w k.ok.shallow t f k.folds b g q in
        record {
          bs = wire_lines d ls;
          move =
              ap (λ (s : Composing). moves s (texts b)) (open_state w n p k)
              ∙ text_step d w k.ok.shallow t f k.folds (n + 1) b text short g q
              ∙ ap (λ (s : Composing). sends (wire_lines d ls) s) (sym (open_state w n p' k'));
          bytes =
              ap (λ (o : Option Folded). sent ++ wire_lines d (flowed_of o)) q
              ∙ ap (λ (l : List Text). sent ++ wire_lines d l) on.lines
              ∙ ap (λ (l : Text). sent ++ l) (wire_lines_append d f.flowed ls)
              ∙ sym (append_assoc sent (wire_lines d f.flowed) (wire_lines d ls))
              ∙ ap (λ (o : Option Folded). (sent ++ wire_lines d (flowed_of o)) ++ wire_lines d ls) (sym k.folds);
          ok = record { ended = oks; few = let r = k.room in omega arith; begun = k' };
          place = omega arith;
        }

    text_on : (b : ℕ) → own_cause w here (texts b) ≡ None → MovesOn w here (texts b)
    text_on b e =
        let tail = refuse_if (leb limit (length t)) OverLimit (refuse_if (not (is_some (folding d w (settled (t ++ b ∷ []))))) NoFolding None) in
        let x = passes (barred b) BarredByte tail e in
        let y = passes (leb limit (length t)) OverLimit (refuse_if (not (is_some (folding d w (settled (t ++ b ∷ []))))) NoFolding None) x.1 in
        let z = passes (not (is_some (folding d w (settled (t ++ b ∷ []))))) NoFolding None y.1 in
        go x.0 (leb-false limit (length t) y.0) z.0 (folding d w (trimmed (t ++ b ∷ []))) refl
      where
        go : barred b ≡ false → length p.text < limit → not (is_some (folding p.depth w (settled (p.text ++ b ∷ [])))) ≡ false → (o : Option Folded) → folding p.depth w (trimmed (p.text ++ b ∷ [])) ≡ o → MovesOn w here (texts b)
        go text short z None q =
            let none = (settled_none d w k.ok.shallow (t ++ b ∷ [])).1 q in
            let bad : true ≡ false = sym (ap (λ (o : Option Folded). not (is_some o)) none) ∙ z in
            let zero : ◌≡◌ {A = ℕ} 0 1 = cc in absurd (omega arith)
        go text short z (Some g) q = text_onto b text short g q

    end_on : (i : ℕ) → own_cause w here (ends i) ≡ None → MovesOn w here (ends i)
    end_on i e =
        let same : i ≡ n + 1 = eqb-true i (n + 1) (not_false (eqb i (n + 1)) (passes (not (eqb i (n + 1))) WrongNumber None e).0) in
        let last = settled_behind (length f.flowed) (behind_lines f.flowed t) in
        let g : Folded = record { flowed = f.flowed; last = last } in
        let folds = end_folds d w k.ok.shallow narrow t f k.folds in
        record {
          bs = wire_line d last;
          move =
              ap₂ (λ (s : Composing) (j : ℕ). moves s (ends j)) (open_state w n p k) same
              ∙ end_step w (n + 1) d t f
              ∙ ap (λ (j : ℕ). sends (wire_line d last) (between_at w j)) (sym (length_push ps p));
          bytes =
              append-nil (ended_bytes w (ps ++ p ∷ []))
              ∙ joined_append (λ (q : Paragraph). wire_lines q.depth (lines_of w q)) ps (p ∷ [])
              ∙ ap (λ (o : Option Folded). sent ++ (wire_lines d (pieces_of o) ++ [])) folds
              ∙ ap (λ (l : Text). sent ++ l) (append-nil (wire_lines d (f.flowed ++ last ∷ [])) ∙ wire_lines_append d f.flowed (last ∷ []) ∙ ap (λ (l : Text). wire_lines d f.flowed ++ l) (append-nil (wire_line d last)))
              ∙ sym (append_assoc sent (wire_lines d f.flowed) (wire_line d last))
              ∙ ap (λ (o : Option Folded). (sent ++ wire_lines d (flowed_of o)) ++ wire_line d last) (sym k.folds);
          ok = record {
            ended = All-push (EndedOk w) ps p oks (record { ok = k.ok; folded = g; folds = folds });
            few = let r = k.room in let l = length_push ps p in omega arith;
            begun = tt;
          };
          place = let l = text_length_push ps p in omega arith;
        }

  pub moves_on : (b : Option Paragraph) → OpenOk w n b → n ≤ limit → (o : Order) → own_cause w (record { ended = ps; begun = b }) o ≡ None → MovesOn w (record { ended = ps; begun = b }) o
  moves_on None k few (opens d) e = open_on d e
  moves_on (Some p) k few (opens d) e = absurd (some_none e)
  moves_on None k few (texts b) e = absurd (some_none e)
  moves_on (Some p) k few (texts b) e = text_on p k b e
  moves_on None k few (ends i) e = absurd (some_none e)
  moves_on (Some p) k few (ends i) e = end_on p k i e
  moves_on None k few (gives_up i) e = absurd (some_none e)
  moves_on (Some p) k few (gives_up i) e = absurd (some_none (passes (not (eqb i (n + 1))) WrongNumber (Some GivenUp) e).1)
  moves_on None k few finishes e = finish_on few
  moves_on (Some p) k few finishes e = absurd (some_none e)

-- what an accepted order answers; a finish is told the foot's length instead
pub tells_so : (w : ℕ) (narrow : w ≤ 998) (ps : List Paragraph) (b : Option Paragraph) → OpenOk w (length ps) b → (o : Order) → own_cause w (record { ended = ps; begun = b }) o ≡ None → (closes o ≡ false) → (m : Sink) → tells (state_at w (length ps) b) o ≡ value_for w m (record { ended = ps; begun = b }) o
tells_so w narrow ps None k (opens d) e c m = refl
tells_so w narrow ps (Some p) k (opens d) e c m = absurd (some_none e)
tells_so w narrow ps None k (texts b) e c m = refl
tells_so w narrow ps (Some p) k (texts b) e c m = refl
tells_so w narrow ps None k (ends i) e c m = refl
tells_so w narrow ps (Some p) k (ends i) e c m =
    let f = k.folded in
    let last = settled_behind (length f.flowed) (behind_lines f.flowed p.text) in
    ap (λ (o : Option Folded). length (flowed_of o) + 1) k.folds
    ∙ sym (length-append f.flowed (last ∷ []))
    ∙ ap (λ (o : Option Folded). length (pieces_of o)) (sym (end_folds p.depth w k.ok.shallow narrow p.text f k.folds))
tells_so w narrow ps None k (gives_up i) e c m = refl
tells_so w narrow ps (Some p) k (gives_up i) e c m = refl
tells_so w narrow ps b k finishes e c m = let z : ◌≡◌ {A = ℕ} 0 1 = cc in absurd (omega arith)
