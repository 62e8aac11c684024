-- What a layer that takes paragraphs keeps, by its moves.
use Rattle.std.specs.Prelude.{◌≡◌, ℕ, ◌+◌, Bool, true, false, ◌⊎◌, List, [], ◌∷◌, Some, None, Option, refl}
use Rattle.std.proofs.Common.{sym, ap, ◌∙◌, inl, inr, arith}
use Rattle.fault.specs.declared.fault.Fault.{Fault}
use Rattle.fault.specs.declared.cause.Cause.{Cause}
use Rattle.fault.specs.declared.cause.Cause.TheVariants.{AfterClose, AfterShut}
use Rattle.fault.specs.Answers.{raised}
use Rattle.fault.specs.Faults.{own, leaves, raise}
use Rattle.orders.specs.declared.phase.Phase.{Phase}
use Rattle.orders.specs.declared.phase.Phase.TheVariants.{Running, Closed, Shut}
use Rattle.orders.specs.Meaning.{Adds, later_all}
use Rattle.orders.specs.Steps.{verdict, mild, place_on}
use Rattle.orders.specs.Lists.{sent_fault}
use Rattle.sink.specs.Sink.{Sink, down}
use Rattle.sink.specs.Sink.{Order as SinkOrder}
use Rattle.taker.specs.Paragraph.{Order, opens, texts, closes, counts, paragraphs}
use Rattle.taker.specs.Law.{more, opened, Numbered, Deaf, Hearing}
use Rattle.layer.specs.Layer.{Machine, Move, sends, stops, run, run_on, state_on, state_after, layer_means}
use Rattle.layer.proofs.Steps.{layer_verdict, own_verdict, closed_verdict, shut_verdict, mild_raise, own_stays, closed_stays, shut_stays}

-- its states count the paragraphs
pub record Numbers (a : Machine paragraphs) (num : a.St → ℕ) : Type 0 where
  pub steps : (s : a.St) (o : Order) (bs : List ℕ) (t : a.St) → a.move s o ≡ sends bs t → num t ≡ more o (num s)
  pub tells : (s : a.St) (d : ℕ) → a.tells s (opens d) ≡ num s + 1

module _ (a : Machine paragraphs) (num : a.St → ℕ) (h : Numbers a num) where
  counted : (p : List Order) (n : ℕ) (s : a.St) (g : Adds SinkOrder ℕ) (d : ℕ) → (run a n s g p (opens d)).fault ≡ None → num (state_after a s p) ≡ opened (num s) p
  counted [] n s g d e = refl
  counted (q ∷ p) n s g d e = go (a.move s q) refl (closes q) (λ n' t g'. counted p n' t g' d) e
    where
      go : (mv : Move a.St) → a.move s q ≡ mv → (c : Bool) → ((n' : ℕ) (t : a.St) (g' : Adds SinkOrder ℕ) → (run a n' t g' p (opens d)).fault ≡ None → num (state_after a t p) ≡ opened (num t) p) → (run_on a mv c n (place_on (counts q) n) g (λ n' s' g'. run a n' s' g' p) (opens d)).fault ≡ None → num (state_after a (state_on (a.move s q) s) p) ≡ opened (more q (num s)) p
      go (stops x) w c ih f = let z : ◌≡◌ {A = ℕ} 0 1 = cc in absurd (omega arith)
      go (sends bs t) w true ih f = let z : ◌≡◌ {A = ℕ} 0 1 = cc in absurd (omega arith)
      go (sends bs t) w false ih f =
          ap (λ (mv : Move a.St). num (state_after a (state_on mv s) p)) w
          ∙ ih (place_on (counts q) n) t (later_all (down bs false) g) f
          ∙ ap (λ (x : ℕ). opened x p) (h.steps s q bs t w)

  pub layer_numbered : (m : Sink) (s : a.St) (ph : Phase Fault) (n : ℕ) → Numbered (layer_means a m s ph n) (num s)
  layer_numbered m s Running n p d e = h.tells (state_after a s p) d ∙ ap (λ (x : ℕ). x + 1) (counted p n s m.adds d e)
  layer_numbered m s Closed n p d e = let z : ◌≡◌ {A = ℕ} 0 1 = cc in absurd (omega arith)
  layer_numbered m s (Shut f) n p d e = let z : ◌≡◌ {A = ℕ} 0 1 = cc in absurd (omega arith)

-- in a state it refuses every text byte, leaving all as it was, or none so
module _ (a : Machine paragraphs) where
  abbrev pub DeafAt : a.St → Type 0
  DeafAt s = (b : ℕ) → (c : Cause) × ((a.move s (texts b) ≡ stops c) × (leaves c ≡ true))

  abbrev pub HearingAt : a.St → Type 0
  HearingAt s = (b : ℕ) (c : Cause) → a.move s (texts b) ≡ stops c → leaves c ≡ false

  hears : (m : Sink) (s : a.St) (n : ℕ) → HearingAt s → Hearing (layer_means a m s Running n)
  hears m s n h b f v = go (a.move s (texts b)) refl
    where
      go : (mv : Move a.St) → a.move s (texts b) ≡ mv → mild f ≡ false
      go (stops c) w =
          let is : own c a.layer n ≡ f = same (own_verdict a m s n (texts b) c w) in
          ap mild (sym is) ∙ h b c w
        where
          same : verdict (layer_means a m s Running n) (texts b) ≡ Some (own c a.layer n) → own c a.layer n ≡ f
          same q = cc
      go (sends bs t) w = from (sent_fault m (down bs false)) (sym (layer_verdict a m s n (texts b) bs t w) ∙ v)
        where
          from : (x : Option Fault) → raised x ≡ Some f → mild f ≡ false
          from None q = let z : ◌≡◌ {A = ℕ} 0 1 = cc in absurd (omega arith)
          from (Some g) q = let is : raise g ≡ f = cc in ap mild (sym is) ∙ mild_raise g

  pub layer_uniform : (m : Sink) (s : a.St) (ph : Phase Fault) (n : ℕ) → DeafAt s ⊎ HearingAt s → Deaf (layer_means a m s ph n) ⊎ Hearing (layer_means a m s ph n)
  layer_uniform m s Running n (inl d) = inl (λ b. (own (d b).0 a.layer n, (own_verdict a m s n (texts b) (d b).0 (d b).1.0, own_stays a m s n (texts b) (d b).0 (d b).1.0 (d b).1.1)))
  layer_uniform m s Running n (inr h) = inr (hears m s n h)
  layer_uniform m s Closed n x = inl (λ b. (own AfterClose a.layer n, (closed_verdict a m s n (texts b), closed_stays a m s n (texts b))))
  layer_uniform m s (Shut f) n x = inl (λ b. (own AfterShut a.layer n, (shut_verdict a m s n (texts b) f, shut_stays a m s n (texts b) f)))
