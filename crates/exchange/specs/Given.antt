-- How a history grows by orders, in whatever chunks their text was fed.
use Rattle.std.specs.Prelude.{◌≡◌, ℕ, List, [], ◌∷◌, ◌++◌, Some, None, Ok, Err, Option, Result}
use Rattle.fault.specs.declared.fault.Fault.{Fault}
use Rattle.fault.specs.Answers.{or_else}
use Rattle.taker.specs.Paragraph.{Order, Taker}
use Rattle.history.specs.History.{to_finish, Step, asked, fed, Reached}
use Rattle.history.specs.Orders.{orders}
use Rattle.store.specs.declared.record.Record.{Record}
use Rattle.exchange.specs.Mail.{mail_orders}

abbrev pub refusal_in : Result ℕ Fault → Option Fault
refusal_in (Ok n) = None
refusal_in (Err f) = Some f

-- the first refusal among steps (the newest first)
abbrev pub first_refusal : List Step → Option Fault
first_refusal [] = None
first_refusal (asked a r ∷ h) = or_else (first_refusal h) (refusal_in r)
first_refusal (fed bs c f ∷ h) = or_else (first_refusal h) f

-- by steps with these orders, from what m means to what n means; v is their first refusal
pub record Given {E : Type 0} (m n : Taker E) (os : List Order) (v : Option Fault) : Type 0 where
  pub steps : List Step
  pub grows : (start : Taker E) (h : List Step) → Reached start h m → Reached start (steps ++ h) n
  pub are : orders steps ≡ os
  pub first : first_refusal steps ≡ v

-- a mail was sent: by some steps with its orders, of which the last was the finish; v is the first refusal among its paragraphs
pub record SentSo {E : Type 0} (m n : Taker E) (text : List ℕ) (rs : List Record) (v : Option Fault) (r : Result ℕ Fault) : Type 0 where
  pub steps : List Step
  pub grows : (start : Taker E) (h : List Step) → Reached start h m → Reached start (asked to_finish r ∷ steps ++ h) n
  pub are : orders (asked to_finish r ∷ steps) ≡ mail_orders text rs
  pub first : first_refusal steps ≡ v
