-- What the rules state for a list of orders, one by one, past refusals: whatever the chunks were.
use Rattle.std.specs.Prelude.{◌≡◌, ℕ, ◌+◌, List, [], ◌∷◌, Some, None, Option, Result}
use Rattle.fault.specs.declared.fault.Fault.{Fault}
use Rattle.orders.specs.Steps.{after, verdict, answered}
use Rattle.taker.specs.Paragraph.{Order, opens, texts, ends, gives_up, finishes, Taker}
use Rattle.history.specs.History.{Step, Reached, to_open, to_end, to_give_up, to_finish}
use Rattle.history.specs.Orders.{Reply, orders, replies, accepted}

abbrev pub offered : {E : Type 0} → Taker E → List Order → Taker E
offered m [] = m
offered m (o ∷ os) = offered (after m o) os

abbrev pub reply_on : Order → Result ℕ Fault → List Reply → List Reply
reply_on (opens d) r l = record { ask = to_open d; reply = r } ∷ l
reply_on (texts b) r l = l
reply_on (ends n) r l = record { ask = to_end n; reply = r } ∷ l
reply_on (gives_up n) r l = record { ask = to_give_up n; reply = r } ∷ l
reply_on finishes r l = record { ask = to_finish; reply = r } ∷ l

-- the answers to all orders but text, the newest first, in front of those before
abbrev pub stated : {E : Type 0} → Taker E → List Order → List Reply → List Reply
stated m [] l = l
stated m (o ∷ os) l = stated (after m o) os (reply_on o (answered m o) l)

abbrev pub tally : Order → Option Fault → ℕ → ℕ
tally (texts b) None n = n + 1
tally (texts b) (Some f) n = n
tally (opens d) v n = n
tally (ends d) v n = n
tally (gives_up d) v n = n
tally finishes v n = n

-- how many text bytes are accepted, after n
abbrev pub counted : {E : Type 0} → Taker E → List Order → ℕ → ℕ
counted m [] n = n
counted m (o ∷ os) n = counted (after m o) os (tally o (verdict m o) n)

-- a history leads where the rules lead for its orders, and its answers are those that they state
pub record AsStated {E : Type 0} (start : Taker E) (h : List Step) (m : Taker E) : Type 0 where
  pub leads : m ≡ offered start (orders h)
  pub told : replies h ≡ stated start (orders h) []
  pub bytes : accepted h ≡ counted start (orders h) 0

abbrev pub HistoriesAsStated : {E : Type 0} → Taker E → Type 0
HistoriesAsStated {E} start = (h : List Step) (m : Taker E) → Reached start h m → AsStated start h m
