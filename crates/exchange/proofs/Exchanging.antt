-- What the promise says of an exchange.
use Rattle.std.proofs.Common.{◌≡◌, ℕ, List, [], ◌∷◌, Option, Result, sym, refl, ◌∙◌, subst, append-nil}
use Rattle.fault.specs.declared.fault.Fault.{Fault}
use Rattle.undo.specs.Undoing.{Undoing}
use Rattle.sink.specs.Sink.{Sink}
use Rattle.sink.specs.Same.{SameUndoing}
use Rattle.taker.specs.Paragraph.{Order, Taker}
use Rattle.taker.specs.Law.{Lawful}
use Rattle.taker.specs.Mail.{Paragraph}
use Rattle.history.specs.History.{Step, Reached}
use Rattle.history.specs.Settled.{settled_paragraphs}
use Rattle.composer.specs.Composers.{new_means}
use Rattle.reader.specs.Reading.{Reading, new_reading}
use Rattle.conversation.specs.Reads.{finished, Reads}
use Rattle.conversation.specs.Promise.{ReadsBack, Holds}
use Rattle.exchange.specs.ReadSo.{ReadSo}
use Rattle.exchange.specs.Exchanged.{exchange_steps, steps_in, Wrote, Written, Exchanged, HandedBack}

-- what was written by a new composer
pub written : (w : ℕ) (m : Sink) (a t : Taker ℕ) (os : List Order) (v : Option Fault) (z : Result ℕ Fault) → Reached (new_means w m) [] a → Wrote a t os v z → Written w m t os v z
written w m a t os v z b p = record {
  ended = p.ended;
  mail = p.mail;
  reached = subst (λ (k : List Step). Reached (new_means w m) k t) (append-nil (exchange_steps p.ended p.mail z)) (p.grows (new_means w m) [] b);
  are = p.are;
  first = p.first;
}

-- what a reader read, by what it meant at the start, and by the foot that its bytes are
pub read_from : {E : Type 0} {start new : Reading E} (r : Reading E) (wire foot : List ℕ) (v : Option Fault) (z : Result ℕ Fault) → start ≡ new → wire ≡ foot → ReadSo start r wire v z → ReadSo new r foot v z
read_from {E = E} {start = start} r wire foot v z is at q = subst (λ (k : Reading E). ReadSo k r foot v z) is (subst (λ (bs : List ℕ). ReadSo start r bs v z) at q)

-- what a reader that was made here handed on
pub handed : {U T E : Type 0} (mu : U → Undoing) (mt : T → Taker E) (law : (y : T) → Lawful (mt y)) (undo : Undoing) (foot : List ℕ) (ps : List Paragraph) (r : Reading E) (v : Option Fault) (z : Result ℕ Fault) (x : U) (y : T) →
    ReadsBack mu mt law undo foot ps r → mu x ≡ undo → ReadSo (new_reading undo (mt y)) r foot v z → HandedBack (mt y) (law y) z r ps
handed {E = E} mu mt law undo foot ps r v z x y back same q accepts = record {
  steps = q.steps;
  handed = q.handed;
  whole = back x y q.steps z q.handed (subst (SameUndoing (mu x)) same (λ bs. refl)) accepts q.only q.are (subst (λ (k : Undoing). Reads (new_reading k (mt y)) (finished z ∷ q.steps) q.handed r) (sym same) q.reads);
}

-- two composing runs with the same orders
pub exchanged : (w : ℕ) (m l : Sink) (os : List Order) (t u : Taker ℕ) (v v' : Option Fault) (x y : Result ℕ Fault) (p : Written w m t os v x) (q : Written w l u os v' y) (Back BackToo : Undoing → List ℕ → List Paragraph → Type 0) (One Other : List Paragraph → Type 0) →
    Holds w m l (steps_in p) (steps_in q) t u Back BackToo →
    ((ps : List Paragraph) → Back m.fixed.also t.foot ps → One ps) →
    ((ps : List Paragraph) → BackToo m.fixed.also t.foot ps → Other ps) →
    Exchanged w m l os t u v v' x y One Other
exchanged w m l os t u v v' x y p q Back BackToo One Other holds one other = record {
  one = p;
  other = q;
  agree = holds.same (p.are ∙ sym q.are);
  back = λ f. one (settled_paragraphs (steps_in p)) (holds.back f);
  back_too = λ f. other (settled_paragraphs (steps_in p)) (holds.back_too f);
}
