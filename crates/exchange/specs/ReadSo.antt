-- Wire bytes read in pieces.
use Rattle.std.specs.Prelude.{◌≡◌, ℕ, List, [], ◌∷◌, None, Option, Result}
use Rattle.fault.specs.declared.fault.Fault.{Fault}
use Rattle.fault.specs.Answers.{or_else}
use Rattle.taker.specs.Paragraph.{Order}
use Rattle.reader.specs.Reading.{Reading}
use Rattle.conversation.specs.Reads.{StepRead, fed, finished, Reads, OnlyFeeds, fed_bytes}

-- the first refusal among feeds (the newest first)
abbrev pub first_refusal : List StepRead → Option Fault
first_refusal [] = None
first_refusal (fed bs c f ∷ h) = or_else (first_refusal h) f
first_refusal (finished a ∷ h) = first_refusal h

-- by feeds of these bytes, from what r means to what s means; v is their first refusal
pub record FedSo {E : Type 0} (r s : Reading E) (bs : List ℕ) (v : Option Fault) : Type 0 where
  pub steps : List StepRead
  pub handed : List Order
  pub only : OnlyFeeds steps
  pub are : fed_bytes steps ≡ bs
  pub first : first_refusal steps ≡ v
  pub reads : Reads r steps handed s

-- and by a finish behind them, which was answered z
pub record ReadSo {E : Type 0} (r s : Reading E) (bs : List ℕ) (v : Option Fault) (z : Result ℕ Fault) : Type 0 where
  pub steps : List StepRead
  pub handed : List Order
  pub only : OnlyFeeds steps
  pub are : fed_bytes steps ≡ bs
  pub first : first_refusal steps ≡ v
  pub reads : Reads r (finished z ∷ steps) handed s
