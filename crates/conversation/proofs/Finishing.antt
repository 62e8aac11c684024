-- A run that has finished: its end took what comes back as the wire bytes of its settled paragraphs.
use Rattle.std.proofs.Common.{◌≡◌, ℕ, true, List, [], ◌∷◌, ◌++◌, map, length, Some, None, Option, sym, refl, ap, ◌∙◌, subst, append-nil, arith}
use Rattle.std.specs.List.{flat_map, AllByRecursion}
use Rattle.fault.specs.Answers.{raised}
use Rattle.orders.specs.Meaning.{Added}
use Rattle.orders.specs.Lists.{addition, reach}
use Rattle.orders.proofs.Fills.{raised_none}
use Rattle.undo.specs.Undoing.{Undone, undone, whole}
use Rattle.sink.specs.Sink.{Sink, down}
use Rattle.sink.specs.Law.{Accepts, Lawful}
use Rattle.sink.specs.Same.{Matched}
use Rattle.sink.proofs.Accepting.{accepted}
use Rattle.taker.specs.Paragraph.{Taker}
use Rattle.taker.specs.Mail.{Paragraph}
use Rattle.folding.specs.Text.{Text}
use Rattle.folding.specs.WireLine.{wire_lines}
use Rattle.folding.specs.Folded.{Folded}
use Rattle.folding.specs.Folding.{folding}
use Rattle.reading.specs.Sent.{Sent, Sendable, sent_bytes, settled_paragraphs}
use Rattle.reading.proofs.Joins.{joined_map}
use Rattle.reading.proofs.Apart.{sent_apart}
use Rattle.history.specs.History.{Step, Reached}
use Rattle.history.specs.Orders.{orders}
use Rattle.history.specs.Settled.{settle, Track, has_finished}
use Rattle.history.specs.Settled.{settled_paragraphs as settled_in}
use Rattle.composer.specs.Composers.{new_means}
use Rattle.conversation.specs.Mail.{pieces_of, ended_bytes, bytes_for}
use Rattle.conversation.specs.Rules.{finished, SoFar, foot_by, reached_by}
use Rattle.conversation.proofs.MailMoves.{EndedOk, MailOk}
use Rattle.conversation.proofs.Ruling.{Meets, going, over, ended, went_with, foot_is, fault_is}
use Rattle.conversation.proofs.AsRuled.{reached_met}
use Rattle.conversation.proofs.Tracking.{tracked}

-- ended paragraphs as they were sent
abbrev pub as_sent : (w : ℕ) (ps : List Paragraph) → AllByRecursion (EndedOk w) ps → List Sent
as_sent w [] k = []
as_sent w (p ∷ ps) k = record { depth = p.depth; text = p.text; folded = k.0.folded } ∷ as_sent w ps k.1

pub sendable : (w : ℕ) (ps : List Paragraph) (k : AllByRecursion (EndedOk w) ps) → AllByRecursion Sendable (as_sent w ps k)
sendable w [] k = tt
sendable w (p ∷ ps) k = (record { shallow = k.0.ok.shallow; clean = k.0.ok.plain; width = w; folds = k.0.folds }, sendable w ps k.1)

pub same_bytes : (w : ℕ) (ps : List Paragraph) (k : AllByRecursion (EndedOk w) ps) → ended_bytes w ps ≡ sent_bytes (as_sent w ps k)
same_bytes w [] k = refl
same_bytes w (p ∷ ps) k =
    ap (λ (o : Option Folded). wire_lines p.depth (pieces_of o) ++ ended_bytes w ps) k.0.folds
    ∙ ap (λ (t : Text). wire_lines p.depth (pieces_of (Some k.0.folded)) ++ t) (same_bytes w ps k.1)

pub same_paragraphs : (w : ℕ) (ps : List Paragraph) (k : AllByRecursion (EndedOk w) ps) → settled_paragraphs (as_sent w ps k) ≡ map settle ps
same_paragraphs w [] k = refl
same_paragraphs w (p ∷ ps) k = ap (λ (l : List Paragraph). settle p ∷ l) (same_paragraphs w ps k.1)

-- what is known of a finished run
pub record Finished (w : ℕ) (m : Sink) (h : List Step) (t : Taker ℕ) : Type 0 where
  pub ended : List Paragraph
  pub ok : AllByRecursion (EndedOk w) ended
  pub listed : settled_in h ≡ map settle ended
  pub took : Accepts m (ended_bytes w ended) t.foot

module _ (w : ℕ) (m : Sink) (law : Lawful m) (fresh : m.fresh ≡ true) where
  facts : {s : SoFar} {t : Taker ℕ} → Meets w m s t → s.course ≡ finished → MailOk w s.mail × (s.mail.begun ≡ None) × (went_with w m s.mail true ≡ None) × (t.foot ≡ foot_by w m s.mail true)
  facts (going n k h e) q = let z : ◌≡◌ {A = ℕ} 0 1 = cc in absurd (omega arith)
  facts (over {mail = mail} u k b h e) q = (k, b, h, ap (λ (x : Taker ℕ). x.foot) e ∙ foot_is w m mail true)
  facts (ended u e) q = let z : ◌≡◌ {A = ℕ} 0 1 = cc in absurd (omega arith)

  pub has_run : (h : List Step) (t : Taker ℕ) → Reached (new_means w m) h t → has_finished h ≡ true → Finished w m h t
  has_run h t p f =
      let k = tracked w m h t p in
      let s = reached_by w m (orders h) in
      let x = facts (reached_met w m h t p) (k.over f) in
      let bytes : bytes_for w s.mail ≡ ended_bytes w s.mail.ended =
      ap (λ (b : Option Paragraph). bytes_for w (record { ended = s.mail.ended; begun = b })) x.1 ∙ append-nil (ended_bytes w s.mail.ended) in
      let none : (reach m (down (bytes_for w s.mail) true) true).fault ≡ None =
      raised_none (reach m (down (bytes_for w s.mail) true) true).fault (sym (fault_is w m s.mail true) ∙ ap raised x.2) in
      record {
        ended = s.mail.ended;
        ok = x.0.ended;
        listed = ap (λ (y : Track). y.listed) k.mail;
        took = subst (λ (l : List ℕ). Accepts m l t.foot) bytes (subst (λ (l : List ℕ). Accepts m (bytes_for w s.mail) l) (sym x.3) (accepted m (bytes_for w s.mail) (law.sound.empty fresh) none));
      }

-- the wire bytes of settled paragraphs
settled_bytes : ℕ → List Paragraph → Text
settled_bytes w qs = flat_map (λ q. wire_lines q.depth (pieces_of (folding q.depth w q.text))) qs

bytes_by_settled : (w : ℕ) (ps : List Paragraph) → ended_bytes w ps ≡ settled_bytes w (map settle ps)
unfolding settled_bytes
bytes_by_settled w ps = sym (joined_map (λ (q : Paragraph). wire_lines q.depth (pieces_of (folding q.depth w q.text))) settle ps)

module _ (w : ℕ) (m l : Sink) (lm : Lawful m) (ll : Lawful l) (same : Matched m l) (h k : List Step) (t u : Taker ℕ) (x : Finished w m h t) (y : Finished w l k u) where
  pub equal_bytes : t.foot ≡ u.foot → settled_in h ≡ settled_in k
  equal_bytes e =
      let bx = ended_bytes w x.ended in
      let by = ended_bytes w y.ended in
      let a = lm.back same.one bx t.foot x.took in
      let b = ll.back same.other by u.foot y.took in
      let both : whole bx (length t.foot) ≡ whole by (length u.foot) = sym a ∙ same.stages.undo t.foot ∙ ap (undone l.fixed.also) e ∙ b in
      let bytes : bx ≡ by = ap (λ (r : Undone). r.given) both in
      x.listed
      ∙ sym (same_paragraphs w x.ended x.ok)
      ∙ sent_apart (as_sent w x.ended x.ok) (as_sent w y.ended y.ok) (sendable w x.ended x.ok) (sendable w y.ended y.ok) (sym (same_bytes w x.ended x.ok) ∙ bytes ∙ same_bytes w y.ended y.ok)
      ∙ same_paragraphs w y.ended y.ok
      ∙ sym y.listed

  pub equal_paragraphs : settled_in h ≡ settled_in k → t.foot ≡ u.foot
  equal_paragraphs e =
      let bytes : ended_bytes w x.ended ≡ ended_bytes w y.ended =
      bytes_by_settled w x.ended ∙ ap (settled_bytes w) (sym x.listed ∙ e ∙ y.listed) ∙ sym (bytes_by_settled w y.ended) in
      ap (λ (r : Added ℕ). r.items) (
      sym x.took.added
      ∙ same.stages.add (down (ended_bytes w x.ended) true)
      ∙ ap (λ (b : List ℕ). addition l.adds (down b true)) bytes
      ∙ y.took.added
      )
