-- Bytes sent down.
use Rattle.std.specs.Prelude.{◌≡◌, ℕ, false, List, ◌++◌, replicate, Ok, Err, Result}
use Rattle.fault.specs.declared.fault.Fault.{Fault}
use Rattle.fault.specs.Answers.{answer, raised}
use Rattle.orders.specs.Lists.{sent, sent_fault}
use Rattle.orders.specs.Behind.{Behind}
use Rattle.sink.specs.Sink.{Sink, down}
use Rattle.folding.specs.Text.{Text, space}
use Rattle.composer.specs.declared.wire_line.WireLine.{WireLine}

-- bytes went down to the sink m, to the first refusal, and left it as n: the answer is that refusal, a level higher, and behind
-- the foot the memory holds what it held
pub record Sends (m n : Sink) (old new : List ℕ) (bs : List ℕ) (r : Result (Unit {0}) Fault) : Type 0 where
  pub answered : r ≡ answer tt (raised (sent_fault m (down bs false)))
  pub changed : n ≡ sent m (down bs false)
  pub behind : Behind n.foot old new

-- the same of a sink's value before and after
abbrev pub WentDown : {S : Type 0} → (S → Sink) → (S → List ℕ) → S → S → List ℕ → Result (Unit {0}) Fault → Type 0
WentDown means memory a b bs r = Sends (means a) (means b) (memory a) (memory b) bs r

-- an answer without its value
abbrev pub done : {T F : Type 0} → Result T F → Result (Unit {0}) F
done (Ok x) = Ok tt
done (Err f) = Err f

-- what a line says behind its quote marks and stuffing
abbrev pub content : WireLine → Text
content l = l.piece.now ++ replicate l.spaces space
