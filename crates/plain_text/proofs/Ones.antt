-- One paragraph: its open, its text, and its end or its giving up.
use Rattle.std.proofs.Common.{◌≡◌, ℕ, [], ◌∷◌, length, Some, None, Ok, Err, Result, sym, refl, ◌∙◌, subst}
use Rattle.fault.specs.declared.fault.Fault.{Fault}
use Rattle.orders.specs.Steps.{after, answered}
use Rattle.orders.specs.Lists.{sent, sent_fault, count}
use Rattle.taker.specs.Mail.{Paragraph}
use Rattle.taker.specs.Paragraph.{Taker, opens, ends, gives_up, text_orders}
use Rattle.taker.specs.Law.{Lawful, LawfulThrough}
use Rattle.history.specs.History.{asked, fed, to_open, to_end, to_give_up, asks, feeds}
use Rattle.plain_text.specs.Grows.{GrowsBy}
use Rattle.plain_text.specs.Handing.{HandedOne, at_open, in_text, at_end}
use Rattle.plain_text.proofs.Counts.{all_counted}

pub refused_open : {E : Type 0} {m n : Taker E} (p : Paragraph) (f : Fault) → Err f ≡ answered m (opens p.depth) → n ≡ after m (opens p.depth) → Lawful n → GrowsBy m n (HandedOne p (Err f))
refused_open p f said to lawful = record {
  steps = asked (to_open p.depth) (Err f) ∷ [];
  so = at_open;
  grows = λ s h r. asks r (to_open p.depth) (Err f) said to lawful;
}

-- the end is accepted, or refused
ended_as : (p : Paragraph) (k : ℕ) (r : Result ℕ Fault) → HandedOne p r (asked (to_end k) r ∷ fed p.text (length p.text) None ∷ asked (to_open p.depth) (Ok k) ∷ [])
ended_as p k (Ok lines) = (k, refl)
ended_as p k (Err f) = at_end k

-- the open is accepted, and the text is fed to its end or to a fault
module _ {E : Type 0} {m n o q : Taker E} (p : Paragraph) (k : ℕ) (said : Ok k ≡ answered m (opens p.depth)) (to : n ≡ after m (opens p.depth)) (lawful : Lawful n) (c : ℕ) (taken : c ≡ count n (text_orders p.text)) (fed_to : o ≡ sent n (text_orders p.text)) (through : LawfulThrough n p.text c) (lawful_fed : Lawful o) where
  pub ended_whole : None ≡ sent_fault n (text_orders p.text) → (r : Result ℕ Fault) → r ≡ answered o (ends k) → q ≡ after o (ends k) → Lawful q → GrowsBy m q (HandedOne p r)
  ended_whole none r answer to_end_of lawful_end =
      let all = all_counted n p.text (sym none) in
      record {
        steps = asked (to_end k) r ∷ fed p.text (length p.text) None ∷ asked (to_open p.depth) (Ok k) ∷ [];
        so = ended_as p k r;
        grows = λ s h t. asks (feeds (asks t (to_open p.depth) (Ok k) said to lawful) p.text (length p.text) None (sym all) none fed_to (subst (LawfulThrough n p.text) (taken ∙ all) through) lawful_fed) (to_end k) r answer to_end_of lawful_end;
      }

  pub given_up : (f g : Fault) → Some f ≡ sent_fault n (text_orders p.text) → Err g ≡ answered o (gives_up k) → q ≡ after o (gives_up k) → Lawful q → GrowsBy m q (HandedOne p (Err f))
  given_up f g why answer to_up lawful_up = record {
    steps = asked (to_give_up k) (Err g) ∷ fed p.text c (Some f) ∷ asked (to_open p.depth) (Ok k) ∷ [];
    so = in_text k c g;
    grows = λ s h t. asks (feeds (asks t (to_open p.depth) (Ok k) said to lawful) p.text c (Some f) taken why fed_to through lawful_fed) (to_give_up k) (Err g) answer to_up lawful_up;
  }
