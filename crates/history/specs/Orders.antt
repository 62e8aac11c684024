-- The orders and the answers of a history.
use Rattle.std.specs.Prelude.{◌≡◌, ℕ, ◌+◌, List, [], ◌∷◌, ◌++◌, Result}
use Rattle.fault.specs.declared.fault.Fault.{Fault}
use Rattle.taker.specs.Paragraph.{Order, text_orders}
use Rattle.history.specs.History.{Ask, order, Step, asked, fed}

-- the orders, the oldest first, each feed written out as single bytes; two lists of orders are the same if these agree
abbrev pub orders : List Step → List Order
orders [] = []
orders (asked a r ∷ h) = orders h ++ order a ∷ []
orders (fed bs c f ∷ h) = orders h ++ text_orders bs

pub record Reply : Type 0 where
  pub ask : Ask
  pub reply : Result ℕ Fault

-- the answers to all but feeds, the newest first
abbrev pub replies : List Step → List Reply
replies [] = []
replies (asked a r ∷ h) = record { ask = a; reply = r } ∷ replies h
replies (fed bs c f ∷ h) = replies h

-- how many bytes the feeds accepted in all
abbrev pub accepted : List Step → ℕ
accepted [] = 0
accepted (asked a r ∷ h) = accepted h
accepted (fed bs c f ∷ h) = accepted h + c

-- each order but feed got the same answer, and the feeds accepted equally many bytes in all
pub record AnsweredAlike (x y : List Step) : Type 0 where
  pub same : replies x ≡ replies y
  pub bytes : accepted x ≡ accepted y
