-- Deliveries, one after the other.
use Rattle.std.proofs.Common.{◌≡◌, ℕ, List, ◌++◌, Some, None, Ok, Err, Option, Result, sym, refl, ap, ◌∙◌}
use Rattle.fault.specs.declared.fault.Fault.{Fault}
use Rattle.fault.specs.Answers.{answer, raised}
use Rattle.orders.specs.Lists.{sent, sent_fault}
use Rattle.orders.proofs.Answering.{answer_err, answer_ok}
use Rattle.orders.proofs.Fills.{raised_none}
use Rattle.taker.specs.Paragraph.{Taker, text_orders}
use Rattle.taker.specs.Events.{Event}
use Rattle.reading.specs.Events.{texts}
use Rattle.reader.specs.declared.delivery.Delivery.{Delivery}
use Rattle.reader.specs.Handing.{Handing, handed_by, hand}
use Rattle.reader.specs.Deliveries.{Hands, Delivered}
use Rattle.reader.proofs.Handing.{hand_append, hand_texts}

raised_some : (x : Option Fault) (f : Fault) → raised x ≡ Some f → (g : Fault) × (x ≡ Some g)
raised_some (Some g) f e = (g, refl)
raised_some None f e = cc

module _ {E : Type 0} (m : Taker E) (k : ℕ) (n : Taker E) (l : ℕ) where
  -- as text orders
  pub text_hands : (bs : List ℕ) (r : Result (Unit {0}) Fault) → r ≡ answer tt (raised (sent_fault m (text_orders bs))) → n ≡ sent m (text_orders bs) → l ≡ k → Hands m k n l (texts bs) r
  text_hands bs r a t e =
      let h = hand_texts m k bs in
      record {
        answered = a ∙ sym (ap (λ (x : Handing E). answer tt (raised x.fault)) h);
        taker = t ∙ sym (ap (λ (x : Handing E). x.taker) h);
        number = e ∙ sym (ap (λ (x : Handing E). x.number) h);
      }

  -- and then more
  pub hands_more : (o : Taker E) (j : ℕ) (es fs : List Event) (r : Result (Unit {0}) Fault) → Hands m k n l es (Ok tt) → Hands n l o j fs r → Hands m k o j (es ++ fs) r
  hands_more o j es fs r p q =
      let none = raised_none _ (answer_ok tt tt _ p.answered) in
      let h : hand m k (es ++ fs) ≡ hand n l fs =
      hand_append m k es fs ∙ ap (λ (v : Option Fault). handed_by v (hand m k es).taker (hand m k es).number (hand (hand m k es).taker (hand m k es).number fs)) none
      ∙ ap (λ (x : Taker E). hand x (hand m k es).number fs) (sym p.taker)
      ∙ ap (λ (x : ℕ). hand n x fs) (sym p.number) in
      record {
        answered = q.answered ∙ sym (ap (λ (x : Handing E). answer tt (raised x.fault)) h);
        taker = q.taker ∙ sym (ap (λ (x : Handing E). x.taker) h);
        number = q.number ∙ sym (ap (λ (x : Handing E). x.number) h);
      }

  -- refused, whatever was to follow
  pub hands_cut : (es fs : List Event) (f : Fault) → Hands m k n l es (Err f) → Hands m k n l (es ++ fs) (Err f)
  hands_cut es fs f p =
      let some = raised_some _ f (answer_err tt f _ p.answered) in
      let h : hand m k (es ++ fs) ≡ record { taker = (hand m k es).taker; number = (hand m k es).number; fault = Some some.0 } =
      hand_append m k es fs ∙ ap (λ (v : Option Fault). handed_by v (hand m k es).taker (hand m k es).number (hand (hand m k es).taker (hand m k es).number fs)) some.1 in
      record {
        answered = p.answered ∙ ap (λ (v : Option Fault). answer tt (raised v)) some.1 ∙ sym (ap (λ (x : Handing E). answer tt (raised x.fault)) h);
        taker = p.taker ∙ sym (ap (λ (x : Handing E). x.taker) h);
        number = p.number ∙ sym (ap (λ (x : Handing E). x.number) h);
      }

module _ {T E : Type 0} (means : T → Taker E) (keeps : T → T → Type 0) (chained : (a b c : T) → keeps a b → keeps b c → keeps a c) where
  pub delivered_more : (a b c : Delivery T) (es fs : List Event) (r : Result (Unit {0}) Fault) → Delivered means keeps a b es (Ok tt) → Delivered means keeps b c fs r → Delivered means keeps a c (es ++ fs) r
  delivered_more a b c es fs r p q = record {
    handed = hands_more (means a.taker) a.number (means b.taker) b.number (means c.taker) c.number es fs r p.handed q.handed;
    kept = chained a.taker b.taker c.taker p.kept q.kept;
  }

  pub delivered_cut : (a b : Delivery T) (es fs : List Event) (f : Fault) → Delivered means keeps a b es (Err f) → Delivered means keeps a b (es ++ fs) (Err f)
  delivered_cut a b es fs f p = record { handed = hands_cut (means a.taker) a.number (means b.taker) b.number es fs f p.handed; kept = p.kept }
