-- A text and a close, by the feed and the close.
use Rattle.std.proofs.Common.{◌≡◌, ℕ, true, false, List, [], ◌∷◌, Some, None, Option, refl, ap, ◌∙◌}
use Rattle.fault.specs.declared.fault.Fault.{Fault}
use Rattle.fault.specs.Answers.{or_else}
use Rattle.orders.specs.Permits.{Filled}
use Rattle.orders.specs.Steps.{after, verdict}
use Rattle.orders.specs.Lists.{sent, sent_on, sent_fault, ran, reach}
use Rattle.orders.proofs.Appending.{sent_append, sent_fault_append}
use Rattle.orders.proofs.Sending.{ran_reach}
use Rattle.sink.specs.Sink.{Sink, close, down}
use Rattle.sink.proofs.Going.{down_going, down_close}

alone : (v : Option Fault) → or_else v None ≡ v
alone (Some f) = refl
alone None = refl

one_sent : (v : Option Fault) (m : Sink) → sent_on v m m ≡ m
one_sent (Some f) m = refl
one_sent None m = refl

module _ (m : Sink) (bs : List ℕ) where
  abbrev n : Sink
  n = sent m (down bs false)

  -- refused among the bytes
  pub cut_short : (f : Fault) → sent_fault m (down bs false) ≡ Some f → (sent_fault m (down bs true) ≡ Some f) × (sent m (down bs true) ≡ n)
  cut_short f e = (
    ap (sent_fault m) (down_close bs) ∙ sent_fault_append m (down bs false) (close ∷ []) ∙ ap (λ (v : Option Fault). or_else v (sent_fault n (close ∷ []))) e,
    ap (sent m) (down_close bs) ∙ sent_append m (down bs false) (close ∷ []) ∙ ap (λ (v : Option Fault). sent_on v n (sent n (close ∷ []))) e,
  )

  -- all taken, and then the close
  pub then_closed : sent_fault m (down bs false) ≡ None → (sent_fault m (down bs true) ≡ verdict n close) × (sent m (down bs true) ≡ after n close)
  then_closed e = (
    ap (sent_fault m) (down_close bs) ∙ sent_fault_append m (down bs false) (close ∷ []) ∙ ap (λ (v : Option Fault). or_else v (sent_fault n (close ∷ []))) e ∙ alone (verdict n close),
    ap (sent m) (down_close bs) ∙ sent_append m (down bs false) (close ∷ []) ∙ ap (λ (v : Option Fault). sent_on v n (sent n (close ∷ []))) e ∙ one_sent (verdict n close) (after n close),
  )

  pub as_whole : ran m (down bs true) ≡ reach m (down bs true) true
  as_whole = ran_reach m (down bs true) true (down_going bs true)

  pub whole_fault : sent_fault m (down bs true) ≡ (reach m (down bs true) true).fault
  whole_fault = ap (λ (w : Filled ℕ). w.fault) as_whole

  pub whole_foot : (sent m (down bs true)).foot ≡ (reach m (down bs true) true).list
  whole_foot = ap (λ (w : Filled ℕ). w.list) as_whole
