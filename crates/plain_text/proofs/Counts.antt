-- A chunk that is refused nowhere is accepted whole.
use Rattle.std.proofs.Common.{◌≡◌, ℕ, List, [], ◌∷◌, length, None, Option, refl, ap, arith}
use Rattle.fault.specs.declared.fault.Fault.{Fault}
use Rattle.orders.specs.Steps.{after, verdict}
use Rattle.orders.specs.Lists.{sent_fault, count, count_on}
use Rattle.orders.proofs.Fills.{both_none}
use Rattle.taker.specs.Paragraph.{Taker, texts, text_orders}

pub all_counted : {E : Type 0} (m : Taker E) (bs : List ℕ) → sent_fault m (text_orders bs) ≡ None → count m (text_orders bs) ≡ length bs
all_counted m [] e = refl
all_counted m (b ∷ bs) e =
    let h = both_none (verdict m (texts b)) (sent_fault (after m (texts b)) (text_orders bs)) e in
    let c = ap (λ (v : Option Fault). count_on v (count (after m (texts b)) (text_orders bs))) h.0 in
    let r = all_counted (after m (texts b)) bs h.1 in
    omega arith
