-- The promise holds.
use Rattle.std.proofs.Common.{◌≡◌, ℕ, Bool, true, List, Ok, sym, ap, ◌∙◌, subst}
use Rattle.fault.specs.declared.fault.Fault.{Fault}
use Rattle.orders.specs.declared.phase.Phase.{Phase}
use Rattle.orders.specs.Alike.{Alike}
use Rattle.undo.specs.Undoing.{Undoing}
use Rattle.sink.specs.Sink.{Sink}
use Rattle.sink.specs.Law.{Lawful as SinkLawful}
use Rattle.sink.specs.Same.{Matched}
use Rattle.taker.specs.Paragraph.{Taker}
use Rattle.taker.specs.Law.{Lawful}
use Rattle.taker.specs.Mail.{Paragraph}
use Rattle.layer.specs.Layer.{layer_means}
use Rattle.layer.proofs.Alike.{layer_alike}
use Rattle.reading.specs.Events.{told}
use Rattle.reading.specs.Machine.{start as line_start}
use Rattle.reading.specs.Runs.{run}
use Rattle.reading.proofs.SentBack.{sent_reads_back}
use Rattle.history.specs.History.{Step, Reached}
use Rattle.history.specs.Settled.{settled_paragraphs}
use Rattle.history.proofs.Chopping.{chopping_harmless}
use Rattle.composer.specs.Machine.{composer, start}
use Rattle.composer.specs.Composers.{new_means, born, good_start}
use Rattle.reader.specs.Reading.{Reading}
use Rattle.conversation.specs.Mail.{ended_bytes}
use Rattle.conversation.specs.Promise.{ReadsBack, Holds}
use Rattle.conversation.proofs.AsRuled.{as_ruled}
use Rattle.conversation.proofs.Finishing.{Finished, as_sent, sendable, same_bytes, same_paragraphs, has_run, equal_bytes, equal_paragraphs}
use Rattle.conversation.proofs.ReadBack.{read_back}

-- new composers of one width over matched sinks cannot be told apart
new_alike : (w : ℕ) (m l : Sink) → SinkLawful m → SinkLawful l → Matched m l → Alike (new_means w m) (new_means w l)
new_alike w m l lm ll h =
    let ph : Bool → Phase Fault = λ f. born (good_start w f) in
    let same = layer_alike composer m l lm.sound ll.sound h (start w) (ph m.fresh) 0 in
    subst (λ (p : Phase Fault). Alike (new_means w m) (layer_means composer l (start w) p 0)) (ap ph (h.one ∙ sym h.other)) same

-- the bytes of a finished run are read back
module _ (w : ℕ) (m : Sink) (law : SinkLawful m) (fresh : m.fresh ≡ true) (h : List Step) (t : Taker ℕ) (x : Finished w m h t) where
  abbrev cs : List ℕ
  cs = ended_bytes w x.ended

  read : run line_start cs ≡ record { handed = told (settled_paragraphs h); left = Ok line_start }
  read =
      ap (run line_start) (same_bytes w x.ended x.ok)
      ∙ (sent_reads_back (as_sent w x.ended x.ok) (sendable w x.ended x.ok)).so_far
      ∙ ap (λ (ps : List Paragraph). record { handed = told ps; left = Ok line_start }) (same_paragraphs w x.ended x.ok ∙ sym x.listed)

  pub reads_back : {U T E : Type 0} (mu : U → Undoing) (mt : T → Taker E) (lt : (y : T) → Lawful (mt y)) (r : Reading E) → ReadsBack mu mt lt m.fixed.also t.foot (settled_paragraphs h) r
  reads_back mu mt lt r u y g z os same accepts only is p =
      read_back (mu u) (mt y) (lt y).before (lt y).numbered t.foot cs (settled_paragraphs h)
      (same t.foot ∙ law.back fresh cs t.foot x.took) read accepts g z os r only is p

pub holds : (w : ℕ) (m l : Sink) → SinkLawful m → SinkLawful l → Matched m l → (h k : List Step) (t u : Taker ℕ) → Reached (new_means w m) h t → Reached (new_means w l) k u →
    {U T E V W F : Type 0} (mu : U → Undoing) (mt : T → Taker E) (lt : (y : T) → Lawful (mt y)) (r : Reading E) (mv : V → Undoing) (mw : W → Taker F) (lw : (y : W) → Lawful (mw y)) (s : Reading F) →
    Holds w m l h k t u (λ undo bs ps. ReadsBack mu mt lt undo bs ps r) (λ undo bs ps. ReadsBack mv mw lw undo bs ps s)
holds w m l lm ll same h k t u p q mu mt lt r mv mw lw s = record {
  ruled = as_ruled w m h t p;
  ruled_too = as_ruled w l k u q;
  same = λ e.
      let c = chopping_harmless (new_means w m) (new_means w l) (new_alike w m l lm ll same) h k t u p q e in
      record { bytes = c.alike.foot; standing = c.alike.standing; answers = c.answers };
  apart = λ f g.
      let x = has_run w m lm same.one h t p f in
      let y = has_run w l ll same.other k u q g in
      (equal_bytes w m l lm ll same h k t u x y, equal_paragraphs w m l lm ll same h k t u x y);
  back = λ f. reads_back w m lm same.one h t (has_run w m lm same.one h t p f) mu mt lt r;
  back_too = λ f. reads_back w m lm same.one h t (has_run w m lm same.one h t p f) mv mw lw s;
}
