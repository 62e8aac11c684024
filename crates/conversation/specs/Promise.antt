-- The promise over whole runs: what holds between two composing runs, and between them and two reading runs.
use Rattle.std.specs.Prelude.{◌≡◌, ℕ, true, ◌↔◌, List, ◌∷◌, None, Ok, Result}
use Rattle.fault.specs.declared.fault.Fault.{Fault}
use Rattle.orders.specs.Steps.{shown}
use Rattle.orders.specs.Lists.{sent, sent_fault}
use Rattle.undo.specs.Undoing.{Undoing}
use Rattle.sink.specs.Sink.{Sink}
use Rattle.sink.specs.Same.{SameUndoing, Matched}
use Rattle.taker.specs.Paragraph.{Order, Taker}
use Rattle.taker.specs.Law.{Lawful}
use Rattle.taker.specs.Mail.{Paragraph}
use Rattle.history.specs.History.{Step, Reached}
use Rattle.history.specs.Orders.{orders, AnsweredAlike}
use Rattle.history.specs.Settled.{settled_paragraphs, has_finished, handed_on}
use Rattle.composer.specs.Composers.{new_means}
use Rattle.reader.specs.Reading.{Reading, new_reading}
use Rattle.conversation.specs.Rules.{AsRuled}
use Rattle.conversation.specs.Reads.{StepRead, finished, Reads, OnlyFeeds, fed_bytes, AllTaken}

-- the ends took equal bytes, the standing faults are equal, and the orders were answered alike
pub record Agree (h k : List Step) (t u : Taker ℕ) : Type 0 where
  pub bytes : t.foot ≡ u.foot
  pub standing : t.standing ≡ u.standing
  pub answers : AnsweredAlike h k

-- a reading run of feeds and then a finish, over a taker that meant t and had opened n paragraphs: nothing was refused, and the
-- paragraphs were handed on in order, and nothing more
pub record ReadBack {E : Type 0} (t : Taker E) (n : ℕ) (ps : List Paragraph) (g : List StepRead) (z : Result ℕ Fault) (os : List Order) (r : Reading E) : Type 0 where
  pub taken : AllTaken g
  -- the finish answers what the taker's does
  pub finish : z ≡ Ok (shown r.taker.foot)
  pub handed : os ≡ handed_on n ps
  pub taker : r.taker ≡ sent t (handed_on n ps)

-- the reader that means r now reads the paragraphs back from the bytes: if it was made over an undoing stage that undoes as `undo`
-- does, and over a taker that accepts the paragraphs, and took the bytes, in whatever chunks, and a finish
abbrev pub ReadsBack : {U T E : Type 0} → (U → Undoing) → (mt : T → Taker E) → ((y : T) → Lawful (mt y)) → Undoing → List ℕ → List Paragraph → Reading E → Type 0
ReadsBack {U} {T} mu mt law undo bs ps r =
    (x : U) (y : T) (g : List StepRead) (z : Result ℕ Fault) (os : List Order) →
    SameUndoing (mu x) undo →
    sent_fault (mt y) (handed_on (law y).before ps) ≡ None →
    OnlyFeeds g → fed_bytes g ≡ bs →
    Reads (new_reading (mu x) (mt y)) (finished z ∷ g) os r →
    ReadBack (mt y) (law y).before ps g z os r

-- what holds at all times of a composing run h that led to t, over a sink that meant m, and another, k, that led to u over one that
-- meant l; and of what the readers of X's bytes read back
pub record Holds (w : ℕ) (m l : Sink) (h k : List Step) (t u : Taker ℕ) (One Other : Undoing → List ℕ → List Paragraph → Type 0) : Type 0 where
  -- bytes, faults and answers are those that the rules state for the orders
  pub ruled : AsRuled w m h t
  pub ruled_too : AsRuled w l k u
  -- the same orders, wherever the text was cut
  pub same : orders h ≡ orders k → Agree h k t u
  -- different paragraphs never share their bytes
  pub apart : has_finished h ≡ true → has_finished k ≡ true → t.foot ≡ u.foot ↔ settled_paragraphs h ≡ settled_paragraphs k
  -- what was sent reads back as it was written
  pub back : has_finished h ≡ true → One m.fixed.also t.foot (settled_paragraphs h)
  pub back_too : has_finished h ≡ true → Other m.fixed.also t.foot (settled_paragraphs h)

-- over composers of one width that were made over any fresh sinks with the same stages and ends with the same permit, whatever
-- their steps were
abbrev pub Promise : {X Y : Type 0} → (X → Sink) → (Y → Sink) → Taker ℕ → Taker ℕ → (Undoing → List ℕ → List Paragraph → Type 0) → (Undoing → List ℕ → List Paragraph → Type 0) → Type 0
Promise {X} {Y} mx my t u one other =
    (a : X) (b : Y) (w : ℕ) (h k : List Step) →
    Matched (mx a) (my b) →
    Reached (new_means w (mx a)) h t →
    Reached (new_means w (my b)) k u →
    Holds w (mx a) (my b) h k t u one other
