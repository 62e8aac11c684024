-- What a layer adds is what the bytes that it sends down add below, faults one level higher.
use Rattle.std.proofs.Common.{◌≡◌, ℕ, Bool, true, false, List, [], ◌∷◌, ◌++◌, Some, None, Option, sym, refl, ap, ◌∙◌, append-nil, arith}
use Rattle.fault.specs.declared.fault.Fault.{Fault}
use Rattle.fault.specs.Answers.{raised}
use Rattle.orders.specs.Meaning.{Kind, Added, Adds, later_all}
use Rattle.orders.specs.Steps.{place_on}
use Rattle.orders.specs.Lists.{then_added, addition}
use Rattle.orders.proofs.Adding.{addition_append}
use Rattle.orders.proofs.Sending.{Going, none, closing, going}
use Rattle.sink.specs.Sink.{put, down}
use Rattle.sink.specs.Sink.{Order as SinkOrder}
use Rattle.layer.specs.Layer.{Machine, Move, sends, stops, moved, run, run_on, lifted}
use Rattle.layer.specs.Wire.{wire, wired, behind}

pub down_append : (bs cs : List ℕ) (c : Bool) → down (bs ++ cs) c ≡ down bs false ++ down cs c
down_append [] cs c = refl
down_append (b ∷ bs) cs c = ap (λ (l : List SinkOrder). put b ∷ l) (down_append bs cs c)

lifted_then : (f : Option Fault) (xs : List ℕ) (r : Added ℕ) → then_added (raised f) xs (lifted r) ≡ lifted (then_added f xs r)
lifted_then (Some x) xs r = refl
lifted_then None xs r = refl

then_nothing : (x : Added ℕ) → then_added x.fault x.items (record { items = []; fault = None }) ≡ x
then_nothing x = go x.fault
  where
    go : (f : Option Fault) → then_added f x.items (record { items = []; fault = None }) ≡ record { items = x.items; fault = f }
    go (Some y) = refl
    go None = ap (λ (l : List ℕ). record { items = l; fault = None }) (append-nil x.items)

-- what stands behind the first bytes
pub data Tail (bs : List ℕ) (v : Option (List ℕ)) (cs : List ℕ) : Type 0 where
  tail : {ds : List ℕ} → v ≡ Some ds → bs ++ ds ≡ cs → Tail bs v cs

pub tail_of : (bs : List ℕ) (v : Option (List ℕ)) (cs : List ℕ) → behind bs v ≡ Some cs → Tail bs v cs
tail_of bs None cs e = let z : ◌≡◌ {A = ℕ} 0 1 = cc in absurd (omega arith)
tail_of bs (Some ds) cs e = let q : bs ++ ds ≡ cs = cc in tail refl q

module _ {k : Kind} (a : Machine k) where
  abbrev AddsBelow : List k.Order → Bool → Type 0
  AddsBelow os c = (n : ℕ) (s : a.St) (g : Adds SinkOrder ℕ) (cs : List ℕ) → wire a s os ≡ Some cs → addition (run a n s g) os ≡ lifted (addition g (down cs c))

  -- orders of which none closes but perhaps the last, as c says
  pub wire_adds : (os : List k.Order) (c : Bool) → Going k os c → AddsBelow os c
  wire_adds [] false none n s g cs e = let q : [] ≡ cs = cc in ap (λ (l : List ℕ). lifted (addition g (down l false))) q
  wire_adds [] true w n s g cs e = elim w [ ]
  wire_adds (o ∷ []) true (closing c) n s g cs e = go (a.move s o) refl e
    where
      go : (mv : Move a.St) → a.move s o ≡ mv → wired mv (λ t. wire a t []) ≡ Some cs → addition (run a n s g) (o ∷ []) ≡ lifted (addition g (down cs true))
      go (stops x) q h = let z : ◌≡◌ {A = ℕ} 0 1 = cc in absurd (omega arith)
      go (sends bs t) q h =
          let l : bs ++ [] ≡ cs = cc in
          let b : bs ≡ cs = sym (append-nil bs) ∙ l in
          then_nothing (run a n s g [] o)
          ∙ ap (λ (mv : Move a.St). moved a mv (k.closes o) n g) q
          ∙ ap (λ (z : Bool). lifted (addition g (down bs z))) c
          ∙ ap (λ (x : List ℕ). lifted (addition g (down x true))) b
  wire_adds (o ∷ os) c (going d w) n s g cs e = go (wire_adds os c w) (a.move s o) refl e
    where
      n' : ℕ
      n' = place_on (k.counts o) n

      rest : Bool → Move a.St → Adds k.Order ℕ
      rest z mv p r = run_on a mv z n n' g (λ x y u. run a x y u p) r

      go : AddsBelow os c → (mv : Move a.St) → a.move s o ≡ mv → wired mv (λ t. wire a t os) ≡ Some cs → addition (run a n s g) (o ∷ os) ≡ lifted (addition g (down cs c))
      go ih (stops x) q h = let z : ◌≡◌ {A = ℕ} 0 1 = cc in absurd (omega arith)
      go ih (sends bs t) q h = step (tail_of bs (wire a t os) cs h)
        where
          step : Tail bs (wire a t os) cs → addition (run a n s g) (o ∷ os) ≡ lifted (addition g (down cs c))
          step (tail {ds} v l) =
              let x = addition g (down bs false) in
              let y = addition (later_all (down bs false) g) (down ds c) in
              ap (λ (mv : Move a.St). then_added (moved a mv (k.closes o) n g).fault (moved a mv (k.closes o) n g).items (addition (rest (k.closes o) mv) os)) q
              ∙ ap (λ (z : Bool). then_added (moved a (sends bs t) z n g).fault (moved a (sends bs t) z n g).items (addition (rest z (sends bs t)) os)) d
              ∙ ap (then_added (raised x.fault) x.items) (ih n' t (later_all (down bs false) g) ds v)
              ∙ lifted_then x.fault x.items y
              ∙ ap lifted (sym (addition_append g (down bs false) (down ds c)) ∙ ap (addition g) (sym (down_append bs ds c)) ∙ ap (λ (z : List ℕ). addition g (down z c)) l)

  abbrev Wired : a.St → List k.Order → Type 0
  Wired s os = (cs : List ℕ) × (wire a s os ≡ Some cs)

  abbrev Unrefused : List k.Order → Type 0
  Unrefused os = (n : ℕ) (s : a.St) (g : Adds SinkOrder ℕ) → (addition (run a n s g) os).fault ≡ None → Wired s os

  first_none : (f : Option Fault) (xs : List ℕ) (r : Added ℕ) → (then_added f xs r).fault ≡ None → r.fault ≡ None
  first_none (Some x) xs r e = let z : ◌≡◌ {A = ℕ} 0 1 = cc in absurd (omega arith)
  first_none None xs r e = e

  wire_on : (o : k.Order) (os : List k.Order) (s : a.St) (bs : List ℕ) (t : a.St) → a.move s o ≡ sends bs t → Wired t os → Wired s (o ∷ os)
  wire_on o os s bs t q w = (bs ++ w.0, ap (λ (mv : Move a.St). wired mv (λ t. wire a t os)) q ∙ ap (behind bs) w.1)

  -- what is refused nowhere is not refused by the layer
  pub added_wire : (os : List k.Order) (c : Bool) → Going k os c → Unrefused os
  added_wire [] c w n s g e = ([], refl)
  added_wire (o ∷ []) true (closing d) n s g e = go (a.move s o) refl e
    where
      go : (mv : Move a.St) → a.move s o ≡ mv → (then_added (moved a mv (k.closes o) n g).fault (moved a mv (k.closes o) n g).items (record { items = []; fault = None })).fault ≡ None → Wired s (o ∷ [])
      go (stops x) q h = let z : ◌≡◌ {A = ℕ} 0 1 = cc in absurd (omega arith)
      go (sends bs t) q h = wire_on o [] s bs t q ([], refl)
  added_wire (o ∷ os) c (going d w) n s g e = go (added_wire os c w) (a.move s o) refl (k.closes o) d e
    where
      n' : ℕ
      n' = place_on (k.counts o) n

      rest : Bool → Move a.St → Adds k.Order ℕ
      rest z mv p r = run_on a mv z n n' g (λ x y u. run a x y u p) r

      go : Unrefused os → (mv : Move a.St) → a.move s o ≡ mv → (z : Bool) → z ≡ false → (then_added (moved a mv z n g).fault (moved a mv z n g).items (addition (rest z mv) os)).fault ≡ None → Wired s (o ∷ os)
      go ih (stops x) q z d h = let y : ◌≡◌ {A = ℕ} 0 1 = cc in absurd (omega arith)
      go ih (sends bs t) q true d h = let y : ◌≡◌ {A = ℕ} 0 1 = cc in absurd (omega arith)
      go ih (sends bs t) q false d h = wire_on o os s bs t q (ih n' t (later_all (down bs false) g) (first_none _ _ _ h))
