-- Orders that a layer accepts one after another: the bytes that they send, and what it adds and answers behind them.
use Rattle.std.proofs.Common.{◌≡◌, ℕ, Bool, false, List, [], ◌∷◌, ◌++◌, Some, None, Option, sym, refl, ap, ◌∙◌, subst, append_assoc, append-nil}
use Rattle.orders.specs.Meaning.{Kind, Adds, later, later_all}
use Rattle.orders.specs.Steps.{place_on}
use Rattle.orders.proofs.Sending.{Going, none, going}
use Rattle.sink.specs.Sink.{down}
use Rattle.sink.specs.Sink.{Order as SinkOrder}
use Rattle.layer.specs.Layer.{Machine, Move, sends, state_on, state_after, moved, run, run_on}
use Rattle.layer.specs.Wire.{wire, wired, behind}
use Rattle.layer.proofs.Wiring.{down_append}

pub later_all_append : {O A : Type 0} (p q : List O) (g : List O → O → A) → later_all (p ++ q) g ≡ later_all q (later_all p g)
later_all_append [] q g = refl
later_all_append (o ∷ p) q g = later_all_append p q (later o g)

behind_behind : (bs cs : List ℕ) (v : Option (List ℕ)) → behind bs (behind cs v) ≡ behind (bs ++ cs) v
behind_behind bs cs None = refl
behind_behind bs cs (Some ds) = ap Some (sym (append_assoc bs cs ds))

behind_none : (v : Option (List ℕ)) → behind [] v ≡ v
behind_none None = refl
behind_none (Some bs) = refl

module _ {k : Kind} (a : Machine k) where
  -- from a state, orders none of which closes send bytes and lead to another
  pub data Steps : a.St → List k.Order → List ℕ → a.St → Type 0 where
    start : {s : a.St} → Steps s [] [] s
    step : {s t u : a.St} {o : k.Order} {os : List k.Order} {bs cs : List ℕ} → a.move s o ≡ sends bs t → k.closes o ≡ false → Steps t os cs u → Steps s (o ∷ os) (bs ++ cs) u

  pub steps_append : {s t u : a.St} {p q : List k.Order} {bs cs : List ℕ} → Steps s p bs t → Steps t q cs u → Steps s (p ++ q) (bs ++ cs) u
  steps_append start y = y
  steps_append {s} {u = u} {q = q} {cs = ds} (step {o = o} {os = os} {bs = bs} {cs = cs} e c x) y = subst (λ (l : List ℕ). Steps s (o ∷ os ++ q) l u) (sym (append_assoc bs cs ds)) (step e c (steps_append x y))

  pub steps_wire : {s t : a.St} {p : List k.Order} {bs : List ℕ} → Steps s p bs t → (q : List k.Order) → wire a s (p ++ q) ≡ behind bs (wire a t q)
  steps_wire {s} start q = sym (behind_none (wire a s q))
  steps_wire (step {u = u} {os = os} {bs = bs} {cs = cs} e c x) q =
      ap (λ (mv : Move a.St). wired mv (λ t. wire a t (os ++ q))) e ∙ ap (behind bs) (steps_wire x q) ∙ behind_behind bs cs (wire a u q)

  pub steps_going : {s t : a.St} {p : List k.Order} {bs : List ℕ} → Steps s p bs t → {q : List k.Order} {c : Bool} → Going k q c → Going k (p ++ q) c
  steps_going start g = g
  steps_going (step e c x) g = going c (steps_going x g)

  pub steps_whole : {s t : a.St} {p : List k.Order} {bs : List ℕ} → Steps s p bs t → wire a s p ≡ Some bs
  steps_whole {s} {t} {p} {bs} x = ap (wire a s) (sym (append-nil p)) ∙ steps_wire x [] ∙ ap Some (append-nil bs)

  pub steps_goes : {s t : a.St} {p : List k.Order} {bs : List ℕ} → Steps s p bs t → Going k p false
  steps_goes start = none
  steps_goes (step e c x) = going c (steps_goes x)

  pub steps_state : {s t : a.St} {p : List k.Order} {bs : List ℕ} → Steps s p bs t → state_after a s p ≡ t
  steps_state start = refl
  steps_state {s} (step {os = os} e c x) = ap (λ (mv : Move a.St). state_after a (state_on mv s) os) e ∙ steps_state x

-- the place behind orders
abbrev pub place_after : (k : Kind) → ℕ → List k.Order → ℕ
place_after k n [] = n
place_after k n (o ∷ os) = place_after k (place_on (k.counts o) n) os

module _ {k : Kind} (a : Machine k) where
  pub steps_run : {s t : a.St} {p : List k.Order} {bs : List ℕ} → Steps a s p bs t → (n : ℕ) (g : Adds SinkOrder ℕ) (o : k.Order) → run a n s g p o ≡ moved a (a.move t o) (k.closes o) (place_after k n p) (later_all (down bs false) g)
  steps_run start n g o = refl
  steps_run (step {t = t} {u = u} {o = q} {os = os} {bs = bs} {cs = cs} e c x) n g o =
      let n' = place_on (k.counts q) n in
      ap (λ (mv : Move a.St). run_on a mv (k.closes q) n n' g (λ x y w. run a x y w os) o) e
      ∙ ap (λ (z : Bool). run_on a (sends bs t) z n n' g (λ x y w. run a x y w os) o) c
      ∙ steps_run x n' (later_all (down bs false) g) o
      ∙ ap (moved a (a.move u o) (k.closes o) (place_after k n' os)) (sym (later_all_append (down bs false) (down cs false) g) ∙ ap (λ (l : List SinkOrder). later_all l g) (sym (down_append bs cs false)))
