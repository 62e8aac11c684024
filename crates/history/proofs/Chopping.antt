-- Where the text is cut does not matter.
use Rattle.std.proofs.Common.{◌≡◌, ℕ, List, [], ◌∷◌, Option, sym, refl, ap, ◌∙◌, subst}
use Rattle.fault.specs.declared.fault.Fault.{Fault}
use Rattle.orders.specs.Steps.{after, answered, verdict}
use Rattle.orders.specs.Alike.{Alike}
use Rattle.orders.proofs.Alikes.{alike_after, same_answer, same_verdict}
use Rattle.taker.specs.Paragraph.{Order, Taker}
use Rattle.history.specs.Orders.{Reply, orders}
use Rattle.history.specs.Stated.{offered, stated, counted, reply_on, tally}
use Rattle.history.specs.Chopped.{ChoppingIsHarmless}
use Rattle.history.proofs.Stating.{as_stated}

module _ {E : Type 0} where
  offered_alike : (a b : Taker E) → Alike a b → (os : List Order) → Alike (offered a os) (offered b os)
  offered_alike a b h [] = h
  offered_alike a b h (o ∷ os) = offered_alike (after a o) (after b o) (alike_after a b h o) os

  stated_alike : (a b : Taker E) → Alike a b → (os : List Order) (l : List Reply) → stated a os l ≡ stated b os l
  stated_alike a b h [] l = refl
  stated_alike a b h (o ∷ os) l =
      ap (λ r. stated (after a o) os (reply_on o r l)) (same_answer a b h o)
      ∙ stated_alike (after a o) (after b o) (alike_after a b h o) os (reply_on o (answered b o) l)

  counted_alike : (a b : Taker E) → Alike a b → (os : List Order) (n : ℕ) → counted a os n ≡ counted b os n
  counted_alike a b h [] n = refl
  counted_alike a b h (o ∷ os) n =
      ap (λ (v : Option Fault). counted (after a o) os (tally o v n)) (same_verdict a b h o)
      ∙ counted_alike (after a o) (after b o) (alike_after a b h o) os (tally o (verdict b o) n)

  pub chopping_harmless : (a b : Taker E) → ChoppingIsHarmless a b
  chopping_harmless a b h x y m n p q e =
      let s = as_stated a x m p in
      let t = as_stated b y n q in
      let os = orders x in
      let all : Alike (offered a os) (offered b (orders y)) = subst (λ (z : List Order). Alike (offered a os) (offered b z)) e (offered_alike a b h os) in
      record {
        alike = subst (λ (z : Taker E). Alike m z) (sym t.leads) (subst (λ (z : Taker E). Alike z (offered b (orders y))) (sym s.leads) all);
        answers = record {
          same = s.told ∙ stated_alike a b h os [] ∙ ap (λ (z : List Order). stated b z []) e ∙ sym t.told;
          bytes = s.bytes ∙ counted_alike a b h os 0 ∙ ap (λ (z : List Order). counted b z 0) e ∙ sym t.bytes;
        };
      }
