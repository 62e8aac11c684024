-- What is known of the greatest and the least number below a bound that pass a test, where the test decides a statement.
use Rattle.std.proofs.Common.{◌≡◌, ℕ, zero, suc, ◌<◌, ◌≤◌, Bool, true, false, Some, None, Decides, Option, refl, subst, ⊎_elim, arith, MatchOption}
use Rattle.std.proofs.lemmas.Bool.{cases_lt}
use Rattle.std.proofs.lemmas.Bool.Decides.{not_from_Decides}
use Rattle.folding.specs.Folding.{greatest, least, or_else}

abbrev pub NoneBelow : (ℕ → Type 0) → ℕ → Type 0
NoneBelow P n = (j : ℕ) → j < n → P j → ⊥

pub record Greatest (P : ℕ → Type 0) (n k : ℕ) : Type 0 where
  pub below : k < n
  pub holds : P k
  pub above : (j : ℕ) → k < j → j < n → P j → ⊥

pub record Least (P : ℕ → Type 0) (n k : ℕ) : Type 0 where
  pub below : k < n
  pub holds : P k
  pub under : NoneBelow P k

at_or_below : (Q : ℕ → Type 0) (n j : ℕ) → j < suc n → (j < n → Q j) → Q n → Q j
at_or_below Q n j l h e = ⊎_elim h (λ (a : n ≤ j). let i : n ≡ j = omega arith in subst Q i e) (cases_lt j n)

module _ {P : ℕ → Type 0} (p : ℕ → Bool) where
  pub greatest_tells : (n : ℕ) → ((j : ℕ) → j < n → Decides (p j) (P j)) → MatchOption (greatest p n) (NoneBelow P n) (Greatest P n)
  unfolding greatest
  greatest_tells zero t = λ j l q. omega arith
  greatest_tells (suc n) t = go (p n) refl (greatest p n) (greatest_tells n (λ j l. t j (omega arith)))
    where
      here : Decides (p n) (P n)
      here = t n (omega arith)

      go : (x : Bool) → p n ≡ x → (o : Option ℕ) → MatchOption o (NoneBelow P n) (Greatest P n) →
          MatchOption (elim x [ true ↦ Some n | false ↦ o ]) (NoneBelow P (suc n)) (Greatest P (suc n))
      go true e o h = record { below = omega arith; holds = here.0 e; above = λ j a b q. omega arith }
      go false e None h = λ j l. at_or_below (λ i. P i → ⊥) n j l (h j) (not_from_Decides (p n) here e)
      go false e (Some k) h = record {
        below = omega (arith, h.below);
        holds = h.holds;
        above = λ j a l. at_or_below (λ i. P i → ⊥) n j l (h.above j a) (not_from_Decides (p n) here e);
      }

  pub least_tells : (n : ℕ) → ((j : ℕ) → j < n → Decides (p j) (P j)) → MatchOption (least p n) (NoneBelow P n) (Least P n)
  unfolding least
  least_tells zero t = λ j l q. omega arith
  least_tells (suc n) t = go (least p n) (p n) refl (least_tells n (λ j l. t j (omega arith)))
    where
      here : Decides (p n) (P n)
      here = t n (omega arith)

      go : (o : Option ℕ) (x : Bool) → p n ≡ x → MatchOption o (NoneBelow P n) (Least P n) →
          MatchOption (or_else o x n) (NoneBelow P (suc n)) (Least P (suc n))
      go (Some k) x e h = record { below = omega (arith, h.below); holds = h.holds; under = h.under }
      go None true e h = record { below = omega arith; holds = here.0 e; under = h }
      go None false e h = λ j l. at_or_below (λ i. P i → ⊥) n j l (h j) (not_from_Decides (p n) here e)
