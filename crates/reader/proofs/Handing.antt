-- Events handed on: after others, as text, and as the orders that they come to.
use Rattle.std.proofs.Common.{◌≡◌, ℕ, List, [], ◌∷◌, ◌++◌, Some, None, Option, refl}
use Rattle.fault.specs.declared.fault.Fault.{Fault}
use Rattle.fault.specs.Answers.{or_else}
use Rattle.orders.specs.Steps.{after, verdict}
use Rattle.orders.specs.Lists.{sent, sent_on, sent_fault}
use Rattle.taker.specs.Paragraph.{Order, texts as text_order, Taker, text_orders}
use Rattle.taker.specs.Events.{Event}
use Rattle.reading.specs.Events.{texts}
use Rattle.reader.specs.Handing.{Handing, as_order, more_unless, number_on, handed_by, hand, orders_for}

module _ {E : Type 0} where
  -- what was made of events, and then of more
  abbrev pub handed_then : Handing E → List Event → Handing E
  handed_then h fs = handed_by h.fault h.taker h.number (hand h.taker h.number fs)

  pub hand_append : (t : Taker E) (n : ℕ) (es fs : List Event) → hand t n (es ++ fs) ≡ handed_then (hand t n es) fs
  hand_append t n [] fs = refl
  hand_append t n (e ∷ es) fs = go (verdict t (as_order n e)) (after t (as_order n e)) _ _ (hand_append (after t (as_order n e)) (number_on t n e) es fs)
    where
      go : (v : Option Fault) (u : Taker E) (g h : Handing E) → g ≡ handed_then h fs → handed_by v u n g ≡ handed_then (handed_by v u n h) fs
      go None u g h ih = ih
      go (Some f) u g h ih = refl

  abbrev as_sent : Taker E → ℕ → List ℕ → Handing E
  as_sent t n bs = record { taker = sent t (text_orders bs); number = n; fault = sent_fault t (text_orders bs) }

  pub hand_texts : (t : Taker E) (n : ℕ) (bs : List ℕ) → hand t n (texts bs) ≡ as_sent t n bs
  hand_texts t n [] = refl
  hand_texts t n (b ∷ bs) = go (verdict t (text_order b)) _ (hand_texts (after t (text_order b)) n bs)
    where
      u : Taker E
      u = after t (text_order b)

      go : (v : Option Fault) (h : Handing E) → h ≡ as_sent u n bs → handed_by v u n h ≡ record { taker = sent_on v u (sent u (text_orders bs)); number = n; fault = or_else v (sent_fault u (text_orders bs)) }
      go None h ih = ih
      go (Some f) h ih = refl

  pub hand_sent : (t : Taker E) (n : ℕ) (es : List Event) → (hand t n es).taker ≡ sent t (orders_for t n es)
  hand_sent t n [] = refl
  hand_sent t n (e ∷ es) = go (verdict t (as_order n e)) _ _ (hand_sent (after t (as_order n e)) (number_on t n e) es)
    where
      u : Taker E
      u = after t (as_order n e)

      go : (v : Option Fault) (h : Handing E) (os : List Order) → h.taker ≡ sent u os → (handed_by v u n h).taker ≡ sent_on v u (sent u (more_unless v os))
      go None h os ih = ih
      go (Some f) h os ih = refl

  pub hand_sent_fault : (t : Taker E) (n : ℕ) (es : List Event) → (hand t n es).fault ≡ sent_fault t (orders_for t n es)
  hand_sent_fault t n [] = refl
  hand_sent_fault t n (e ∷ es) = go (verdict t (as_order n e)) _ _ (hand_sent_fault (after t (as_order n e)) (number_on t n e) es)
    where
      u : Taker E
      u = after t (as_order n e)

      go : (v : Option Fault) (h : Handing E) (os : List Order) → h.fault ≡ sent_fault u os → (handed_by v u n h).fault ≡ or_else v (sent_fault u (more_unless v os))
      go None h os ih = ih
      go (Some f) h os ih = refl
