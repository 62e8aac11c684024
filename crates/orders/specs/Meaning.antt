-- What a taker means: the foot, the addition and the permit, all fixed by what it holds now.
use Rattle.std.specs.Prelude.{ℕ, zero, suc, Bool, List, [], ◌∷◌, Some, Option}
use Rattle.fault.specs.declared.fault.Fault.{Fault}
use Rattle.fault.specs.declared.layer.Layer.{Layer}
use Rattle.fault.specs.Answers.{raised}

-- a kind of takers, by the orders that they take
pub record Kind : Type 1 where
  pub Order : Type 0
  -- close and finish
  pub closes : Order → Bool
  -- a byte, which the place counts
  pub counts : Order → Bool
  -- what else a taker of the kind means, that no order changes
  pub Also : Type 0

-- what an order adds to the foot, and the refusal that ends it, by the taker or one below it
pub record Added (E : Type 0) : Type 0 where
  pub items : List E
  pub fault : Option Fault

-- what each order adds, after a list of earlier accepted orders, the first of them in front; the permit plays no part
abbrev pub Adds : Type 0 → Type 0 → Type 0
Adds O E = List O → O → Added E

-- the permit of an end: the fault of an item that may not join a permitted list, and that of a list that may not be closed on;
-- given item by item, so that the empty list is permitted, and so is every beginning of a permitted list
pub record Permit (E : Type 0) : Type 0 where
  pub bars : List E → E → Option Fault
  pub ending : List E → Option Fault

-- what no order changes: the permit of the end, the number of layers over the end, the taker's own layer
pub record Fixed (k : Kind) (E : Type 0) : Type 0 where
  pub end : Permit E
  pub above : ℕ
  pub layer : Layer
  pub also : k.Also

pub record Meaning (k : Kind) (E : Type 0) : Type 0 where
  pub fixed : Fixed k E
  -- the list that reached the bottom
  pub foot : List E
  pub adds : Adds k.Order E
  -- what an accepted order that does not close answers, after earlier accepted orders
  pub says : List k.Order → k.Order → ℕ
  pub fresh : Bool
  -- how many bytes it accepted, capped
  pub place : ℕ
  -- the fault that shut it
  pub standing : Option Fault

-- a fault of the end, so many layers higher
abbrev pub up : ℕ → Option Fault → Option Fault
up zero v = v
up (suc n) v = raised (up n v)

-- the permit as the taker has it: that of the end, its faults a level higher for each layer
abbrev pub bars : {k : Kind} {E : Type 0} → Fixed k E → List E → E → Option Fault
bars f p x = up f.above (f.end.bars p x)

abbrev pub ending : {k : Kind} {E : Type 0} → Fixed k E → List E → Option Fault
ending f p = up f.above (f.end.ending p)

-- every order is refused with f
abbrev pub refuses : {O E : Type 0} → Fault → Adds O E
refuses f p o = record { items = []; fault = Some f }

-- nothing to answer
abbrev pub silent : {O : Type 0} → List O → O → ℕ
silent p o = 0

-- after the accepted order o
abbrev pub later : {O A : Type 0} → O → (List O → O → A) → List O → O → A
later o a p = a (o ∷ p)

-- after accepted orders
abbrev pub later_all : {O A : Type 0} → List O → (List O → O → A) → List O → O → A
later_all [] a = a
later_all (o ∷ os) a = later_all os (later o a)
