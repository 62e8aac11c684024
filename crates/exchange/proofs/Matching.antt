-- Dot stages over memories of one size.
use Rattle.std.proofs.Common.{◌≡◌, ℕ, [], vec_len, Vec, refl, ap}
use Rattle.std.specs.declared.alloc.Global.{Global}
use Rattle.orders.specs.Permits.{fill}
use Rattle.sink.specs.Same.{Matched}
use Rattle.ends.specs.Ends.{fits}
use Rattle.exchange.specs.Exchanged.{dotted}

pub matched : (v u : Vec ℕ Global) → vec_len v ≡ vec_len u → Matched (dotted v) (dotted u)
matched v u e = record {
  one = refl;
  other = refl;
  stages = record { many = refl; add = λ os. refl; undo = λ bs. refl };
  permit = record { permitted = λ xs. ap (λ (n : ℕ). (fill (fits n).bars [] xs).fault) e; closable = λ xs h. refl };
}
