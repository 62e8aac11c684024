-- The longest permitted beginning of a list.
use Rattle.std.specs.Prelude.{◌≡◌, List, [], ◌∷◌, ◌++◌, Some, None, Option}
use Rattle.fault.specs.declared.fault.Fault.{Fault}
use Rattle.fault.specs.Answers.{raised}

-- the fault of an item that may not join a list
abbrev pub Bars : Type 0 → Type 0
Bars E = List E → E → Option Fault

-- a list, and the fault that ended it
pub record Filled (E : Type 0) : Type 0 where
  pub list : List E
  pub fault : Option Fault

abbrev pub filled : {E : Type 0} → Option Fault → List E → Filled E → Filled E
filled (Some f) foot rest = record { list = foot; fault = Some f }
filled None foot rest = rest

-- the foot with the longest permitted beginning of a list behind it, and the fault of the first item that was barred
abbrev pub fill : {E : Type 0} → Bars E → List E → List E → Filled E
fill bars foot [] = record { list = foot; fault = None }
fill bars foot (x ∷ xs) = filled (bars foot x) foot (fill bars (foot ++ (x ∷ [])) xs)

abbrev pub all_of : {E : Type 0} → List E → Filled E
all_of xs = record { list = xs; fault = None }

-- the whole list is permitted
abbrev pub Permitted : {E : Type 0} → Bars E → List E → Type 0
Permitted bars xs = fill bars [] xs ≡ all_of xs

-- the fault one level higher
abbrev pub lift : {E : Type 0} → Filled E → Filled E
lift w = record { list = w.list; fault = raised w.fault }
