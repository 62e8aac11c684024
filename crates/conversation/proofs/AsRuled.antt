-- Every history of a composer is as the rules state for its orders.
use Rattle.std.proofs.Common.{◌≡◌, ℕ, Bool, true, false, ◌&&◌, leb, List, [], ◌∷◌, Option, sym, refl, ap, ◌∙◌, subst, arith, leb-true}
use Rattle.fault.specs.declared.fault.Fault.{Fault}
use Rattle.orders.specs.Steps.{after}
use Rattle.sink.specs.Sink.{Sink}
use Rattle.taker.specs.Paragraph.{Order, Taker}
use Rattle.layer.specs.Layer.{layer_means}
use Rattle.history.specs.History.{Step, Reached}
use Rattle.history.specs.Orders.{Reply, orders}
use Rattle.history.specs.Stated.{offered, stated, counted, reply_on, tally}
use Rattle.history.proofs.Stating.{as_stated}
use Rattle.composer.specs.Machine.{composer, start}
use Rattle.composer.specs.Composers.{good_start, born, new_means}
use Rattle.conversation.specs.Rules.{SoFar, at_first, answer_for, verdict_for, follows, answers_for, bytes_taken, start_for, AsRuled}
use Rattle.conversation.proofs.Ruling.{Meets, going, ended, met, foot_met, standing_met}

middle : (a b c : Bool) → a && b && c ≡ true → b ≡ true
middle true true c e = refl
middle true false c e = e
middle false b c e = let z : ◌≡◌ {A = ℕ} 0 1 = cc in absurd (omega arith)

module _ (w : ℕ) (m : Sink) where
  pub start_met : Meets w m (start_for w m) (new_means w m)
  start_met = go (good_start w m.fresh) refl
    where
      go : (b : Bool) → good_start w m.fresh ≡ b → Meets w m (at_first (good_start w m.fresh)) (new_means w m)
      go true q =
          subst (λ (b : Bool). Meets w m (at_first b) (layer_means composer m (start w) (born b) 0)) (sym q)
          (going (leb-true w 998 (middle (leb 20 w) (leb w 998) m.fresh q)) (record { ended = tt; few = omega arith; begun = tt }) refl refl)
      go false q = subst (λ (b : Bool). Meets w m (at_first b) (layer_means composer m (start w) (born b) 0)) (sym q) (ended (start w) refl)

  pub follows_met : (os : List Order) {s : SoFar} {t : Taker ℕ} → Meets w m s t → Meets w m (follows w m s os) (offered t os)
  follows_met [] k = k
  follows_met (o ∷ os) k = follows_met os (met w m k o).next

  answers_met : (os : List Order) {s : SoFar} {t : Taker ℕ} → Meets w m s t → (l : List Reply) → stated t os l ≡ answers_for w m s os l
  answers_met [] k l = refl
  answers_met (o ∷ os) {s} {t} k l =
      ap (λ r. stated (after t o) os (reply_on o r l)) (met w m k o).tells
      ∙ answers_met os (met w m k o).next (reply_on o (answer_for w m s o) l)

  taken_met : (os : List Order) {s : SoFar} {t : Taker ℕ} → Meets w m s t → (n : ℕ) → counted t os n ≡ bytes_taken w m s os n
  taken_met [] k n = refl
  taken_met (o ∷ os) {s} {t} k n =
      ap (λ (v : Option Fault). counted (after t o) os (tally o v n)) (met w m k o).says
      ∙ taken_met os (met w m k o).next (tally o (verdict_for w m s o) n)

  -- a history leads where the rules lead for its orders
  pub reached_met : (h : List Step) (t : Taker ℕ) → Reached (new_means w m) h t → Meets w m (follows w m (start_for w m) (orders h)) t
  reached_met h t p = subst (λ (x : Taker ℕ). Meets w m (follows w m (start_for w m) (orders h)) x) (sym (as_stated (new_means w m) h t p).leads) (follows_met (orders h) start_met)

  pub as_ruled : (h : List Step) (t : Taker ℕ) → Reached (new_means w m) h t → AsRuled w m h t
  as_ruled h t p =
      let s = as_stated (new_means w m) h t p in
      let k = reached_met h t p in
      record {
        foot = foot_met w m k;
        standing = standing_met w m k;
        answers = s.told ∙ answers_met (orders h) start_met [];
        bytes = s.bytes ∙ taken_met (orders h) start_met 0;
      }
