-- Two takers that cannot be told apart by their orders.
use Rattle.std.specs.Prelude.{◌≡◌, List, ◌++◌, None}
use Rattle.orders.specs.Meaning.{Kind, Meaning, bars, ending}
use Rattle.orders.specs.Permits.{fill}
use Rattle.orders.specs.Lists.{addition}

-- the same foot, the same additions and answers for every list, the same permit for every list that goes on from the foot
pub record Alike {k : Kind} {E : Type 0} (a b : Meaning k E) : Type 0 where
  pub foot : a.foot ≡ b.foot
  pub adds : (os : List k.Order) → addition a.adds os ≡ addition b.adds os
  pub says : (os : List k.Order) (o : k.Order) → a.says os o ≡ b.says os o
  pub permits : (xs : List E) → fill (bars a.fixed) a.foot xs ≡ fill (bars b.fixed) b.foot xs
  pub closable : (xs : List E) → (fill (bars a.fixed) a.foot xs).fault ≡ None → ending a.fixed (a.foot ++ xs) ≡ ending b.fixed (b.foot ++ xs)
  pub place : a.place ≡ b.place
  pub layer : a.fixed.layer ≡ b.fixed.layer
  pub standing : a.standing ≡ b.standing
