-- Orders given after others.
use Rattle.std.proofs.Common.{◌≡◌, ℕ, List, [], ◌∷◌, ◌++◌, Some, None, Option, Result, sym, refl, ap, ◌∙◌, subst, ap₂, append_assoc, append-nil}
use Rattle.fault.specs.declared.fault.Fault.{Fault}
use Rattle.fault.specs.Answers.{or_else}
use Rattle.orders.specs.Steps.{after, answered}
use Rattle.orders.specs.Lists.{sent, sent_fault, count}
use Rattle.orders.proofs.Appending.{or_else_assoc}
use Rattle.taker.specs.Paragraph.{Order, Taker, text_orders}
use Rattle.taker.specs.Law.{Lawful, LawfulThrough}
use Rattle.history.specs.History.{Ask, order, Step, asked, fed, Reached, asks, feeds}
use Rattle.history.specs.Orders.{orders}
use Rattle.exchange.specs.Given.{refusal_in, first_refusal, Given}

pub orders_append : (x y : List Step) → orders (x ++ y) ≡ orders y ++ orders x
orders_append [] y = sym (append-nil (orders y))
orders_append (asked a r ∷ x) y = ap (λ (l : List Order). l ++ order a ∷ []) (orders_append x y) ∙ append_assoc (orders y) (orders x) (order a ∷ [])
orders_append (fed bs c f ∷ x) y = ap (λ (l : List Order). l ++ text_orders bs) (orders_append x y) ∙ append_assoc (orders y) (orders x) (text_orders bs)

or_none : (v : Option Fault) → v ≡ or_else v None
or_none (Some f) = refl
or_none None = refl

first_append : (x y : List Step) → first_refusal (x ++ y) ≡ or_else (first_refusal y) (first_refusal x)
first_append [] y = or_none (first_refusal y)
first_append (asked a r ∷ x) y = ap (λ (v : Option Fault). or_else v (refusal_in r)) (first_append x y) ∙ sym (or_else_assoc (first_refusal y) (first_refusal x) (refusal_in r))
first_append (fed bs c f ∷ x) y = ap (λ (v : Option Fault). or_else v f) (first_append x y) ∙ sym (or_else_assoc (first_refusal y) (first_refusal x) f)

module _ {E : Type 0} where
  pub given_none : (m : Taker E) → Given m m [] None
  given_none m = record { steps = []; grows = λ s h r. r; are = refl; first = refl }

  pub given_then : (m n p : Taker E) (os ps : List Order) (v w : Option Fault) → Given m n os v → Given n p ps w → Given m p (os ++ ps) (or_else v w)
  given_then m n p os ps v w a b = record {
    steps = b.steps ++ a.steps;
    grows = λ s h r. subst (λ (l : List Step). Reached s l p) (sym (append_assoc b.steps a.steps h)) (b.grows s (a.steps ++ h) (a.grows s h r));
    are = orders_append b.steps a.steps ∙ ap₂ (λ (x y : List Order). x ++ y) a.are b.are;
    first = first_append b.steps a.steps ∙ ap₂ or_else a.first b.first;
  }

  -- one step but feed
  pub given_asked : (m n : Taker E) (a : Ask) (r : Result ℕ Fault) → r ≡ answered m (order a) → n ≡ after m (order a) → Lawful n → Given m n (order a ∷ []) (refusal_in r)
  given_asked m n a r q e l = record { steps = asked a r ∷ []; grows = λ s h p. asks p a r q e l; are = refl; first = refl }

  -- one feed
  pub given_fed : (m n : Taker E) (bs : List ℕ) (c : ℕ) (f : Option Fault) → c ≡ count m (text_orders bs) → f ≡ sent_fault m (text_orders bs) → n ≡ sent m (text_orders bs) → LawfulThrough m bs c → Lawful n → Given m n (text_orders bs) f
  given_fed m n bs c f q g e t l = record { steps = fed bs c f ∷ []; grows = λ s h p. feeds p bs c f q g e t l; are = refl; first = refl }
