-- Paragraphs handed on to a taker that accepts them: the numbers that its opens answer are those that their ends name.
use Rattle.std.proofs.Common.{◌≡◌, ℕ, ◌+◌, Bool, false, List, [], ◌∷◌, ◌++◌, None, Option, sym, refl, ap, ◌∙◌, ap₂}
use Rattle.fault.specs.declared.fault.Fault.{Fault}
use Rattle.fault.specs.Answers.{or_else}
use Rattle.orders.specs.Meaning.{Adds, bars, ending, later}
use Rattle.orders.specs.Permits.{fill}
use Rattle.orders.specs.Steps.{after, verdict, settled, reached, adds_on, says_on, if_closing}
use Rattle.orders.specs.Lists.{each, sent, sent_on, sent_fault}
use Rattle.orders.proofs.Fills.{both_none}
use Rattle.orders.proofs.Appending.{sent_append, sent_fault_append}
use Rattle.taker.specs.Paragraph.{Order, opens, texts, ends, finishes, closes, Taker}
use Rattle.taker.specs.Law.{more, Numbered}
use Rattle.taker.specs.Mail.{Paragraph}
use Rattle.taker.specs.Events.{Event, opened, text, ended}
use Rattle.reading.specs.Events.{told}
use Rattle.reading.specs.Events.{texts as text_events}
use Rattle.history.specs.Settled.{handed_on}
use Rattle.reader.specs.Handing.{hand, orders_for, more_unless}
use Rattle.reader.proofs.Handing.{hand_sent, hand_sent_fault}

-- the orders of events, where n paragraphs were opened before, and k is the number of the open one
abbrev pub numbered : ℕ → ℕ → List Event → List Order
numbered n k [] = []
numbered n k (opened d ∷ es) = opens d ∷ numbered (n + 1) (n + 1) es
numbered n k (text b ∷ es) = texts b ∷ numbered n k es
numbered n k (ended ∷ es) = ends k ∷ numbered n k es

-- paragraphs with a finish behind them
text_told : (t : List ℕ) (n k : ℕ) (es : List Event) (l : List Order) → numbered n k ((text_events t ++ ended ∷ []) ++ es) ++ l ≡ each texts t (ends k ∷ (numbered n k es ++ l))
text_told [] n k es l = refl
text_told (b ∷ t) n k es l = ap (λ (o : List Order). texts b ∷ o) (text_told t n k es l)

pub told_numbered : (ps : List Paragraph) (n k : ℕ) → numbered n k (told ps) ++ finishes ∷ [] ≡ handed_on n ps
told_numbered [] n k = refl
told_numbered (p ∷ ps) n k =
    ap (λ (o : List Order). opens p.depth ∷ o)
    (text_told p.text (n + 1) (n + 1) (told ps) (finishes ∷ []) ∙ ap (λ (o : List Order). each texts p.text (ends (n + 1) ∷ o)) (told_numbered ps (n + 1) (n + 1)))

module _ {E : Type 0} where
  added : (m : Taker E) (o : Order) → closes o ≡ false → verdict m o ≡ None → (after m o).adds ≡ later o m.adds
  unfolding after verdict
  added m o c v = ap (λ (x : Option Fault). (settled m o x (reached m o).list).adds) v ∙ ap (λ (z : Bool). adds_on z o m) c

  said : (m : Taker E) (o : Order) → closes o ≡ false → verdict m o ≡ None → (after m o).says ≡ later o m.says
  unfolding after verdict
  said m o c v = ap (λ (x : Option Fault). (settled m o x (reached m o).list).says) v ∙ ap (λ (z : Bool). says_on z o m) c

  numbered_on : (m : Taker E) (n : ℕ) (o : Order) → closes o ≡ false → verdict m o ≡ None → Numbered m n → Numbered (after m o) (more o n)
  numbered_on m n o c v h p d e =
      ap (λ (s : List Order → Order → ℕ). s p (opens d)) (said m o c v)
      ∙ h (o ∷ p) d (sym (ap (λ (a : Adds Order E). (a p (opens d)).fault) (added m o c v)) ∙ e)

  -- an accepted order adds with no refusal
  unrefused : (m : Taker E) (o : Order) → verdict m o ≡ None → (m.adds [] o).fault ≡ None
  unfolding verdict
  unrefused m o v =
      let a = m.adds [] o in
      let f = fill (bars m.fixed) m.foot a.items in
      let stop = if_closing (closes o) (ending m.fixed f.list) in
      (both_none a.fault stop (both_none f.fault (or_else a.fault stop) v).1).0

  -- what is handed on is what the numbers say
  pub orders_are : (es : List Event) (t : Taker E) (n k : ℕ) → Numbered t n → sent_fault t (numbered n k es) ≡ None → orders_for t k es ≡ numbered n k es
  orders_are [] t n k h e = refl
  orders_are (opened d ∷ es) t n k h e =
      let x = both_none (verdict t (opens d)) (sent_fault (after t (opens d)) (numbered (n + 1) (n + 1) es)) e in
      let number : t.says [] (opens d) ≡ n + 1 = h [] d (unrefused t (opens d) x.0) in
      ap₂ (λ (v : Option Fault) (j : ℕ). opens d ∷ more_unless v (orders_for (after t (opens d)) j es)) x.0 number
      ∙ ap (λ (o : List Order). opens d ∷ o) (orders_are es (after t (opens d)) (n + 1) (n + 1) (numbered_on t n (opens d) refl x.0 h) x.1)
  orders_are (text b ∷ es) t n k h e =
      let x = both_none (verdict t (texts b)) (sent_fault (after t (texts b)) (numbered n k es)) e in
      ap (λ (v : Option Fault). texts b ∷ more_unless v (orders_for (after t (texts b)) k es)) x.0
      ∙ ap (λ (o : List Order). texts b ∷ o) (orders_are es (after t (texts b)) n k (numbered_on t n (texts b) refl x.0 h) x.1)
  orders_are (ended ∷ es) t n k h e =
      let x = both_none (verdict t (ends k)) (sent_fault (after t (ends k)) (numbered n k es)) e in
      ap (λ (v : Option Fault). ends k ∷ more_unless v (orders_for (after t (ends k)) k es)) x.0
      ∙ ap (λ (o : List Order). ends k ∷ o) (orders_are es (after t (ends k)) n k (numbered_on t n (ends k) refl x.0 h) x.1)

  -- a taker that accepts paragraphs, by what is made of their events
  pub record Takes (t : Taker E) (n k : ℕ) (ps : List Paragraph) : Type 0 where
    pub orders : orders_for t k (told ps) ++ finishes ∷ [] ≡ handed_on n ps
    pub fault : (hand t k (told ps)).fault ≡ None
    pub finish : verdict (hand t k (told ps)).taker finishes ≡ None
    pub taker : after (hand t k (told ps)).taker finishes ≡ sent t (handed_on n ps)

  pub takes : (t : Taker E) (n k : ℕ) (ps : List Paragraph) → Numbered t n → sent_fault t (handed_on n ps) ≡ None → Takes t n k ps
  takes t n k ps h e =
      let os = numbered n k (told ps) in
      let all : sent_fault t (os ++ finishes ∷ []) ≡ None = ap (sent_fault t) (told_numbered ps n k) ∙ e in
      let x = both_none (sent_fault t os) (sent_fault (sent t os) (finishes ∷ [])) (sym (sent_fault_append t os (finishes ∷ [])) ∙ all) in
      let last = (both_none (verdict (sent t os) finishes) None x.1).0 in
      let same = orders_are (told ps) t n k h x.0 in
      let taker : (hand t k (told ps)).taker ≡ sent t os = hand_sent t k (told ps) ∙ ap (sent t) same in
      record {
        orders = ap (λ (o : List Order). o ++ finishes ∷ []) same ∙ told_numbered ps n k;
        fault = hand_sent_fault t k (told ps) ∙ ap (sent_fault t) same ∙ x.0;
        finish = ap (λ (y : Taker E). verdict y finishes) taker ∙ last;
        taker =
            ap (λ (y : Taker E). after y finishes) taker
            ∙ sym (
            ap (sent t) (sym (told_numbered ps n k))
            ∙ sent_append t os (finishes ∷ [])
            ∙ ap (λ (v : Option Fault). sent_on v (sent t os) (sent (sent t os) (finishes ∷ []))) x.0
            ∙ ap (λ (v : Option Fault). sent_on v (after (sent t os) finishes) (after (sent t os) finishes)) last
            );
      }
