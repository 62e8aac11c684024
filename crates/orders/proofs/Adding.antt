-- What orders add after others.
use Rattle.std.proofs.Common.{◌≡◌, List, [], ◌∷◌, ◌++◌, Some, None, Option, sym, refl, ap, ◌∙◌, append_assoc}
use Rattle.fault.specs.declared.fault.Fault.{Fault}
use Rattle.orders.specs.Meaning.{Added, Adds, later, later_all}
use Rattle.orders.specs.Lists.{then_added, addition}

pub then_added_assoc : {E : Type 0} (f g : Option Fault) (xs ys : List E) (r : Added E) → then_added f xs (then_added g ys r) ≡ then_added (then_added f xs (record { items = ys; fault = g })).fault (then_added f xs (record { items = ys; fault = g })).items r
then_added_assoc (Some x) g xs ys r = refl
then_added_assoc None (Some y) xs ys r = refl
then_added_assoc {E} None None xs ys r = ap (λ (l : List E). record { items = l; fault = r.fault }) (sym (append_assoc xs ys r.items))

pub addition_append : {O E : Type 0} (g : Adds O E) (p os : List O) → addition g (p ++ os) ≡ then_added (addition g p).fault (addition g p).items (addition (later_all p g) os)
addition_append g [] os = refl
addition_append g (o ∷ p) os =
    let x = g [] o in
    let y = addition (later o g) p in
    ap (then_added x.fault x.items) (addition_append (later o g) p os)
    ∙ then_added_assoc x.fault y.fault x.items y.items (addition (later_all p (later o g)) os)
