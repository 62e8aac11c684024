-- A history: the steps that a paragraph taker was given, with their answers.
use Rattle.std.specs.Prelude.{◌≡◌, ℕ, List, [], ◌∷◌, Option, Result}
use Rattle.fault.specs.declared.fault.Fault.{Fault}
use Rattle.orders.specs.Steps.{after, answered}
use Rattle.orders.specs.Lists.{sent, sent_fault, count}
use Rattle.taker.specs.Paragraph.{Order, opens, ends, gives_up, finishes, Taker, text_orders}
use Rattle.taker.specs.Law.{Lawful, LawfulThrough}

-- the steps but feed
pub data Ask : Type 0 where
  to_open : ℕ → Ask
  to_end : ℕ → Ask
  to_give_up : ℕ → Ask
  to_finish : Ask

abbrev pub order : Ask → Order
order (to_open d) = opens d
order (to_end n) = ends n
order (to_give_up n) = gives_up n
order to_finish = finishes

-- a step with its answer: of a feed, how many bytes were accepted, and the fault
pub data Step : Type 0 where
  asked : Ask → Result ℕ Fault → Step
  fed : List ℕ → ℕ → Option Fault → Step

-- from a start, by steps (the newest first), to a meaning; the law holds all the way
pub data Reached {E : Type 0} (start : Taker E) : List Step → Taker E → Type 0 where
  begun : {m : Taker E} → Lawful m → m ≡ start → Reached start [] m
  asks : {h : List Step} {m n : Taker E} → Reached start h m → (a : Ask) (r : Result ℕ Fault) → r ≡ answered m (order a) → n ≡ after m (order a) → Lawful n → Reached start (asked a r ∷ h) n
  feeds : {h : List Step} {m n : Taker E} → Reached start h m → (bs : List ℕ) (c : ℕ) (f : Option Fault) → c ≡ count m (text_orders bs) → f ≡ sent_fault m (text_orders bs) → n ≡ sent m (text_orders bs) → LawfulThrough m bs c → Lawful n → Reached start (fed bs c f ∷ h) n
