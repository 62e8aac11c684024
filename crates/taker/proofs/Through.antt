-- The law holds all the way through a chunk.
use Rattle.std.proofs.Common.{◌≡◌, ℕ, ◌+◌, ◌<◌, ◌≤◌, Bool, true, false, leb, ◌⊎◌, List, [], ◌∷◌, ◌++◌, length, get_or, take, Some, None, Option, sym, refl, ap, ◌∙◌, subst, inl, inr, arith, leb-false, leb-true}
use Rattle.std.proofs.lemmas.List.{take_more}
use Rattle.fault.specs.declared.fault.Fault.{Fault}
use Rattle.fault.specs.Answers.{or_else}
use Rattle.orders.specs.Steps.{after, verdict}
use Rattle.orders.specs.Lists.{sent, sent_on, sent_fault}
use Rattle.orders.proofs.Appending.{sent_append, sent_fault_append}
use Rattle.taker.specs.Paragraph.{Order, texts, Taker, text_orders}
use Rattle.taker.specs.Law.{Lawful, LawfulThrough}

pub texts_push : (xs : List ℕ) (b : ℕ) → text_orders (xs ++ b ∷ []) ≡ text_orders xs ++ texts b ∷ []
texts_push [] b = refl
texts_push (x ∷ xs) b = ap (λ (l : List Order). texts x ∷ l) (texts_push xs b)

one_on : {E : Type 0} (v : Option Fault) (m : Taker E) → sent_on v m m ≡ m
one_on (Some f) m = refl
one_on None m = refl

-- after i bytes of the chunk, all accepted, the taker means n
pub record Through {E : Type 0} (m : Taker E) (xs : List ℕ) (i : ℕ) (n : Taker E) : Type 0 where
  pub here : sent m (text_orders (take i xs)) ≡ n
  pub none : sent_fault m (text_orders (take i xs)) ≡ None
  pub law : LawfulThrough m xs i

pub through_none : {E : Type 0} (m : Taker E) (xs : List ℕ) → Lawful m → Through m xs 0 m
through_none {E} m xs l = record { here = refl; none = refl; law = λ k h. let z : k ≡ 0 = omega arith in subst (λ (j : ℕ). Lawful (sent m (text_orders (take j xs)))) (sym z) l }

module _ {E : Type 0} (m : Taker E) (xs : List ℕ) (i : ℕ) (n p : Taker E) (h : Through m xs i n) (q : i < length xs) where
  abbrev b : ℕ
  b = get_or xs i 0

  abbrev one : List Order
  one = texts b ∷ []

  more_orders : text_orders (take (i + 1) xs) ≡ text_orders (take i xs) ++ one
  more_orders = ap text_orders (take_more xs i 0 q) ∙ texts_push (take i xs) b

  sent_more : sent m (text_orders (take (i + 1) xs)) ≡ after n (texts b)
  sent_more =
      ap (sent m) more_orders
      ∙ sent_append m (text_orders (take i xs)) one
      ∙ ap (λ (v : Option Fault). sent_on v (sent m (text_orders (take i xs))) (sent (sent m (text_orders (take i xs))) one)) h.none
      ∙ ap (λ (t : Taker E). sent t one) h.here
      ∙ one_on (verdict n (texts b)) (after n (texts b))

  pub through_more : verdict n (texts b) ≡ None → p ≡ after n (texts b) → Lawful p → Through m xs (i + 1) p
  through_more v e l =
      let here : sent m (text_orders (take (i + 1) xs)) ≡ p = sent_more ∙ sym e in
      record {
        here = here;
        none =
            ap (sent_fault m) more_orders
            ∙ sent_fault_append m (text_orders (take i xs)) one
            ∙ ap (λ (x : Option Fault). or_else x (sent_fault (sent m (text_orders (take i xs))) one)) h.none
            ∙ ap (λ (t : Taker E). sent_fault t one) h.here
            ∙ ap (λ (x : Option Fault). or_else x None) v;
        law = λ k c. at k (split k c);
      }
    where
      here' : sent m (text_orders (take (i + 1) xs)) ≡ p
      here' = sent_more ∙ sym e

      split : (k : ℕ) → k ≤ i + 1 → (k ≤ i) ⊎ (k ≡ i + 1)
      split k c = by (leb k i) refl
        where
          by : (x : Bool) → leb k i ≡ x → (k ≤ i) ⊎ (k ≡ i + 1)
          by true w = inl (leb-true k i w)
          by false w = let z = leb-false k i w in inr (omega arith)

      at : (k : ℕ) → (k ≤ i) ⊎ (k ≡ i + 1) → Lawful (sent m (text_orders (take k xs)))
      at k (inl c) = h.law k c
      at k (inr c) = subst (λ (j : ℕ). Lawful (sent m (text_orders (take j xs)))) (sym c) (subst (λ (t : Taker E). Lawful t) (sym here') l)
