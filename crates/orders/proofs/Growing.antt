-- The foot only grows, so what stands behind it later stood behind it before.
use Rattle.std.proofs.Common.{◌≡◌, ℕ, ◌+◌, ◌-◌, ◌≤◌, List, [], length, drop, sym, ap, ◌∙◌, arith, length-append, drop-drop}
use Rattle.orders.specs.Meaning.{Kind, Meaning, bars}
use Rattle.orders.specs.Steps.{reached, after}
use Rattle.orders.specs.Behind.{Behind}
use Rattle.orders.proofs.Fills.{fill_prefix}
use Rattle.orders.proofs.Sending.{settled_foot}

pub grows : {k : Kind} {E : Type 0} (m : Meaning k E) (o : k.Order) → length m.foot ≤ length (after m o).foot
unfolding after
grows {k} {E} m o =
    let p = fill_prefix (bars m.fixed) m.foot (m.adds [] o).items in
    let e = ap (λ (l : List E). length l) (settled_foot m o (reached m o).fault (reached m o).list ∙ p.is) in
    let l = length-append m.foot p.pre in
    omega arith

at : (n m : ℕ) (l : List ℕ) → n ≤ m → drop m l ≡ drop (m - n) (drop n l)
at n m l h =
    let e : m ≡ n + (m - n) = omega arith in
    ap (λ (z : ℕ). drop z l) e ∙ sym (drop-drop (m - n) n l)

-- one order after another, the last of which leaves m
pub behind_then : {k : Kind} (l m : Meaning k ℕ) (o : k.Order) (x y z : List ℕ) → m ≡ after l o → Behind l.foot x y → Behind m.foot y z → Behind m.foot x z
behind_then {k} l m o x y z e p q =
    let g = grows l o in
    let h : length l.foot ≤ length m.foot = rw e g in
    q ∙ at (length l.foot) (length m.foot) y h ∙ ap (drop (length m.foot - length l.foot)) p ∙ sym (at (length l.foot) (length m.foot) x h)
