-- Events handed on to the taker of a delivery.
use Rattle.std.specs.Prelude.{◌≡◌, ℕ, List, Result}
use Rattle.fault.specs.declared.fault.Fault.{Fault}
use Rattle.fault.specs.Answers.{answer, raised}
use Rattle.taker.specs.Paragraph.{Taker}
use Rattle.taker.specs.Events.{Event}
use Rattle.reader.specs.declared.delivery.Delivery.{Delivery}
use Rattle.reader.specs.Handing.{hand}

-- events went to the taker m with the number k, to the first refusal, and left it as n with the number l: the answer is that
-- refusal, a level higher
pub record Hands {E : Type 0} (m : Taker E) (k : ℕ) (n : Taker E) (l : ℕ) (es : List Event) (r : Result (Unit {0}) Fault) : Type 0 where
  pub answered : r ≡ answer tt (raised (hand m k es).fault)
  pub taker : n ≡ (hand m k es).taker
  pub number : l ≡ (hand m k es).number

-- the same of a delivery before and after
pub record Delivered {T E : Type 0} (means : T → Taker E) (keeps : T → T → Type 0) (a b : Delivery T) (es : List Event) (r : Result (Unit {0}) Fault) : Type 0 where
  pub handed : Hands (means a.taker) a.number (means b.taker) b.number es r
  pub kept : keeps a.taker b.taker
