-- The bytes that a list of orders sends down.
use Rattle.std.specs.Prelude.{ℕ, List, [], ◌∷◌, ◌++◌, Some, None, Option}
use Rattle.orders.specs.Meaning.{Kind}
use Rattle.layer.specs.Layer.{Machine, Move, sends, stops}

abbrev pub behind : List ℕ → Option (List ℕ) → Option (List ℕ)
behind bs None = None
behind bs (Some cs) = Some (bs ++ cs)

abbrev pub wired : {St : Type 0} → Move St → (St → Option (List ℕ)) → Option (List ℕ)
wired (sends bs t) more = behind bs (more t)
wired (stops c) more = None

-- from state s; none where the layer itself refuses one of them
abbrev pub wire : {k : Kind} (a : Machine k) → a.St → List k.Order → Option (List ℕ)
wire a s [] = Some []
wire a s (o ∷ os) = wired (a.move s o) (λ t. wire a t os)
