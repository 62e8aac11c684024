-- Bytes sent down after others.
use Rattle.std.proofs.Common.{◌≡◌, ℕ, false, List, [], ◌∷◌, ◌++◌, Some, None, Ok, Err, Option, Result, sym, refl, ap, ◌∙◌, subst}
use Rattle.fault.specs.declared.fault.Fault.{Fault}
use Rattle.fault.specs.Answers.{answer, raised, or_else}
use Rattle.orders.specs.Meaning.{Kind, Meaning, bars}
use Rattle.orders.specs.Steps.{after, verdict, reached}
use Rattle.orders.specs.Lists.{sent, sent_on, sent_fault}
use Rattle.orders.proofs.Answering.{answer_err, answer_ok}
use Rattle.orders.proofs.Appending.{sent_append, sent_fault_append}
use Rattle.orders.proofs.Fills.{fill_prefix, raised_none}
use Rattle.orders.proofs.Sending.{settled_foot}
use Rattle.sink.specs.Sink.{Sink, down}
use Rattle.sink.specs.Sink.{Order as SinkOrder}
use Rattle.layer.proofs.Wiring.{down_append}
use Rattle.folding.proofs.Constructors.{some_none}
use Rattle.composer.specs.Sending.{Sends}
use Rattle.composer.specs.Keeping.{Grows, grows_same, grows_chained, behind_grown}

-- an order lets the foot grow, and so do orders handed on one by one
module _ {k : Kind} {E : Type 0} where
  pub after_grows : (m : Meaning k E) (o : k.Order) → Grows m.foot (after m o).foot
  unfolding after
  after_grows m o =
      let p = fill_prefix (bars m.fixed) m.foot (m.adds [] o).items in
      record { more = p.pre; grown = settled_foot m o (reached m o).fault (reached m o).list ∙ p.is }

  pub sent_grows : (m : Meaning k E) (os : List k.Order) → Grows m.foot (sent m os).foot
  sent_grows m [] = grows_same m.foot
  sent_grows m (o ∷ os) = go (verdict m o) (sent_grows (after m o) os)
    where
      go : (v : Option Fault) → Grows (after m o).foot (sent (after m o) os).foot → Grows m.foot (sent_on v (after m o) (sent (after m o) os)).foot
      go (Some f) g = after_grows m o
      go None g = grows_chained m.foot (after m o).foot (sent (after m o) os).foot (after_grows m o) g

-- nothing
pub sends_none : (m : Sink) (x : List ℕ) → Sends m m x x [] (Ok tt)
sends_none m x = record { answered = refl; changed = refl; behind = refl }

module _ (m n : Sink) (x y bs : List ℕ) where
  -- and then more
  pub sends_more : (o : Sink) (z cs : List ℕ) (r : Result (Unit {0}) Fault) → Sends m n x y bs (Ok tt) → Sends n o y z cs r → Sends m o x z (bs ++ cs) r
  sends_more o z cs r p q =
      let none = raised_none _ (answer_ok tt tt _ p.answered) in
      let at : n ≡ sent m (down bs false) = p.changed in
      let split = down_append bs cs false in
      let fault : sent_fault m (down (bs ++ cs) false) ≡ sent_fault n (down cs false) =
      ap (sent_fault m) split ∙ sent_fault_append m (down bs false) (down cs false)
      ∙ ap (λ (v : Option Fault). or_else v (sent_fault (sent m (down bs false)) (down cs false))) none
      ∙ ap (λ (l : Sink). sent_fault l (down cs false)) (sym at) in
      let on : sent m (down (bs ++ cs) false) ≡ sent n (down cs false) =
      ap (sent m) split ∙ sent_append m (down bs false) (down cs false)
      ∙ ap (λ (v : Option Fault). sent_on v (sent m (down bs false)) (sent (sent m (down bs false)) (down cs false))) none
      ∙ ap (λ (l : Sink). sent l (down cs false)) (sym at) in
      let g = sent_grows n (down cs false) in
      let grown : Grows n.foot o.foot = record { more = g.more; grown = ap (λ (l : Sink). l.foot) q.changed ∙ g.grown } in
      record {
        answered = q.answered ∙ ap (λ (v : Option Fault). answer tt (raised v)) (sym fault);
        changed = q.changed ∙ sym on;
        behind = q.behind ∙ behind_grown n.foot o.foot x y grown p.behind;
      }

  -- a refusal ends it
  pub sends_stopped : (f : Fault) (cs : List ℕ) → Sends m n x y bs (Err f) → Sends m n x y (bs ++ cs) (Err f)
  sends_stopped f cs p = go (sent_fault m (down bs false)) refl (answer_err tt f _ p.answered)
    where
      os : List SinkOrder
      os = down bs false

      rest : Sink
      rest = sent (sent m os) (down cs false)

      go : (v : Option Fault) → sent_fault m os ≡ v → raised (sent_fault m os) ≡ Some f → Sends m n x y (bs ++ cs) (Err f)
      go None e h = absurd (some_none (sym h ∙ ap raised e))
      go (Some g) e h =
          let fault : sent_fault m (down (bs ++ cs) false) ≡ sent_fault m os =
          ap (sent_fault m) (down_append bs cs false) ∙ sent_fault_append m os (down cs false)
          ∙ ap (λ (v : Option Fault). or_else v (sent_fault (sent m os) (down cs false))) e ∙ sym e in
          let on : sent m (down (bs ++ cs) false) ≡ sent m os =
          ap (sent m) (down_append bs cs false) ∙ sent_append m os (down cs false)
          ∙ ap (λ (v : Option Fault). sent_on v (sent m os) rest) e in
          record {
            answered = p.answered ∙ ap (λ (v : Option Fault). answer tt (raised v)) (sym fault);
            changed = p.changed ∙ sym on;
            behind = p.behind;
          }

pub sends_same : (m n : Sink) (x y bs cs : List ℕ) (r : Result (Unit {0}) Fault) → bs ≡ cs → Sends m n x y bs r → Sends m n x y cs r
sends_same m n x y bs cs r e p = subst (λ (l : List ℕ). Sends m n x y l r) e p

-- a refusal on the way to all of them
pub sends_cut : (m n : Sink) (x y bs cs all : List ℕ) (f : Fault) → bs ++ cs ≡ all → Sends m n x y bs (Err f) → Sends m n x y all (Err f)
sends_cut m n x y bs cs all f e p = sends_same m n x y (bs ++ cs) all (Err f) e (sends_stopped m n x y bs f cs p)
