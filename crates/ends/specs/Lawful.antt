-- The ends keep the law of sinks.
use Rattle.std.specs.Prelude.{◌≡◌, ℕ, ◌+◌, ◌<◌, ◌≤◌, Bool, true, false, cond, List, [], ◌∷◌, ◌++◌, length, take, drop, Some, None, vec_items, vec_len, Option, Vec, ◌==◌, nat_lt, slice_index, slice_index_or, refl}
use Rattle.std.proofs.Common.{sym, ap, ◌∙◌, append-nil, append_assoc, arith, one-add, length-take, length-append, take-append-drop, eqb-true, eq-eqb, lt-ltb, le-ltb}
use Rattle.std.proofs.lemmas.List.{nil_from_length, get_or_at}
use Rattle.std.specs.declared.alloc.Global.{Global}
use Rattle.fault.specs.declared.fault.Fault.{Fault}
use Rattle.fault.specs.declared.cause.Cause.{Cause}
use Rattle.fault.specs.declared.cause.Cause.TheVariants.{Full, Differs, Incomplete, AfterClose}
use Rattle.fault.specs.declared.layer.Layer.TheVariants.{End}
use Rattle.fault.specs.Faults.{own, leaves}
use Rattle.orders.specs.declared.phase.Phase.{Phase}
use Rattle.orders.specs.declared.phase.Phase.TheVariants.{Running, Closed, Shut}
use Rattle.orders.specs.Meaning.{Added, Permit, refuses}
use Rattle.orders.specs.Permits.{fill, filled, all_of, Permitted}
use Rattle.orders.specs.Steps.{shown, grown, place_on}
use Rattle.orders.specs.Lists.{addition}
use Rattle.orders.specs.Laws.{Hard}
use Rattle.undo.specs.Undoing.{plain, Undone, undone, whole}
use Rattle.sink.specs.Sink.{Order, put, close, closes, counts, down}
use Rattle.sink.specs.Law.{Accepts, Lawful}
use Rattle.ends.specs.Ends.{end_means, end_fresh, end_adds, running_adds, fits, matches, held, memory_means, compare_means}

pub adds_whole : (n : ℕ) (bs : List ℕ) → addition (running_adds n) (down bs true) ≡ record { items = bs; fault = None }
adds_whole n [] = refl
adds_whole n (b ∷ bs) = ap (λ (a : Added ℕ). record { items = b ∷ a.items; fault = a.fault }) (adds_whole (grown n) bs)

plain_whole : (bs : List ℕ) → undone plain bs ≡ whole bs (length bs)
plain_whole [] = refl
plain_whole (b ∷ bs) = ap (λ (r : Undone). record { given = b ∷ r.given; accepted = 1 + r.accepted; refused = r.refused; stop = r.stop }) (plain_whole bs) ∙ ap (λ (n : ℕ). record { given = b ∷ bs; accepted = n; refused = None; stop = None }) (one-add (length bs))

module _ (permit : Permit ℕ) (foot : List ℕ) where
  empty : (ph : Phase Fault) → end_fresh ph foot ≡ true → foot ≡ []
  empty Running e = nil_from_length foot (eqb-true (length foot) 0 e)
  empty Closed e = let z : ◌≡◌ {A = ℕ} 0 1 = cc in absurd (omega arith)
  empty (Shut f) e = let z : ◌≡◌ {A = ℕ} 0 1 = cc in absurd (omega arith)

  over : (ph : Phase Fault) (o : Order) → closes o ≡ true → (end_adds ph (shown foot) [] o).fault ≡ None → (p : List Order) (q : Order) → end_adds ph (shown foot) (o ∷ p) q ≡ refuses (own AfterClose End (place_on (counts o) (shown foot))) p q
  over Running close c e p q = refl
  over Running (put b) c e p q = let z : ◌≡◌ {A = ℕ} 0 1 = cc in absurd (omega arith)
  over Closed o c e p q = let z : ◌≡◌ {A = ℕ} 0 1 = cc in absurd (omega arith)
  over (Shut f) o c e p q = let z : ◌≡◌ {A = ℕ} 0 1 = cc in absurd (omega arith)

  back : (ph : Phase Fault) → end_fresh ph foot ≡ true → (bs out : List ℕ) → Accepts (end_means permit foot ph) bs out → undone plain out ≡ whole bs (length out)
  back Running fr bs out a =
      let e : bs ≡ out = ap (λ (x : Added ℕ). x.items) (sym (adds_whole (shown foot) bs) ∙ a.added) in
      rw (← e) (plain_whole bs)
  back Closed fr bs out a = let z : ◌≡◌ {A = ℕ} 0 1 = cc in absurd (omega arith)
  back (Shut f) fr bs out a = let z : ◌≡◌ {A = ℕ} 0 1 = cc in absurd (omega arith)

  -- whatever it permits
  pub end_lawful : Hard permit → Permitted permit.bars foot → (ph : Phase Fault) → Lawful (end_means permit foot ph)
  end_lawful hard within ph = record { sound = record { empty = empty ph; within = within; hard = hard; over = over ph }; back = back ph }

-- a fault that is given under a test has its cause
caused : (x : Bool) (c : Cause) (p : ℕ) (f : Fault) → leaves c ≡ false → cond x None (Some (own c End p)) ≡ Some f → leaves f.cause ≡ false
caused true c p f h e = let z : ◌≡◌ {A = ℕ} 0 1 = cc in absurd (omega arith)
caused false c p f h e = let q : own c End p ≡ f = cc in ap (λ (g : Fault). leaves g.cause) (sym q) ∙ h

pub fits_hard : (n : ℕ) → Hard (fits n)
fits_hard n = record {
  bars = λ l x f e. caused (nat_lt (length l) n) Full (shown l) f refl e;
  ending = λ l f e. let z : ◌≡◌ {A = ℕ} 0 1 = cc in absurd (omega arith);
}

pub matches_hard : (ref : List ℕ) → Hard (matches ref)
matches_hard ref = record {
  bars = λ l x f e. barred (nat_lt (length l) (length ref)) (slice_index ref (length l) == x) (shown l) f e;
  ending = λ l f e. ended (nat_lt (length l) (length ref)) (shown l) f e;
}
  where
    barred : (x y : Bool) (p : ℕ) (f : Fault) → cond x (cond y None (Some (own Differs End p))) (Some (own Differs End p)) ≡ Some f → leaves f.cause ≡ false
    barred true y p f e = caused y Differs p f refl e
    barred false y p f e = caused false Differs p f refl e

    ended : (x : Bool) (p : ℕ) (f : Fault) → cond x (Some (own Incomplete End p)) None ≡ Some f → leaves f.cause ≡ false
    ended true p f e = caused false Incomplete p f refl e
    ended false p f e = let z : ◌≡◌ {A = ℕ} 0 1 = cc in absurd (omega arith)

-- one permitted item after another
step : (bars : List ℕ → ℕ → Option Fault) (foot : List ℕ) (x : ℕ) (xs : List ℕ) → bars foot x ≡ None → fill bars (foot ++ (x ∷ [])) xs ≡ all_of ((foot ++ (x ∷ [])) ++ xs) → fill bars foot (x ∷ xs) ≡ all_of (foot ++ (x ∷ xs))
step bars foot x xs e ih = ap (λ (v : Option Fault). filled v foot (fill bars (foot ++ (x ∷ [])) xs)) e ∙ ih ∙ ap all_of (append_assoc foot (x ∷ []) xs)

pub fits_all : (n : ℕ) (foot xs : List ℕ) → length foot + length xs ≤ n → fill (fits n).bars foot xs ≡ all_of (foot ++ xs)
fits_all n foot [] h = ap all_of (sym (append-nil foot))
fits_all n foot (x ∷ xs) h =
    let l = length-append foot (x ∷ []) in
    step (fits n).bars foot x xs (rw (lt-ltb (length foot) n (omega arith)) refl) (fits_all n (foot ++ (x ∷ [])) xs (omega arith))

matches_all : (ref foot xs rest : List ℕ) → (foot ++ xs) ++ rest ≡ ref → fill (matches ref).bars foot xs ≡ all_of (foot ++ xs)
matches_all ref foot [] rest e = ap all_of (sym (append-nil foot))
matches_all ref foot (x ∷ xs) rest e =
    let r : foot ++ (x ∷ (xs ++ rest)) ≡ ref = sym (append_assoc foot (x ∷ xs) rest) ∙ e in
    let l = length-append foot (x ∷ (xs ++ rest)) in
    let n : length foot < length ref = rw (← r) (omega arith) in
    let y : slice_index_or ref (length foot) 0 ≡ x = rw (← r) (get_or_at foot x (xs ++ rest) 0 (length foot) refl) in
    step (matches ref).bars foot x xs (rw (lt-ltb (length foot) (length ref) n, eq-eqb (slice_index ref (length foot)) x y) refl) (matches_all ref (foot ++ (x ∷ [])) xs rest (ap (λ (z : List ℕ). z ++ rest) (append_assoc foot (x ∷ []) xs) ∙ e))

pub held_fits : (v : Vec ℕ Global) (n : ℕ) → Permitted (fits (vec_len v)).bars (held v n)
held_fits v n =
    let l = length-take n (vec_items v) in
    let k = v.ok.0 in
    fits_all (vec_len v) [] (held v n) (omega arith)

pub taken_matches : (ref : List ℕ) (n : ℕ) → Permitted (matches ref).bars (take n ref)
taken_matches ref n = matches_all ref [] (take n ref) (drop n ref) (take-append-drop n ref)

pub memory_lawful : (v : Vec ℕ Global) (n : ℕ) (ph : Phase Fault) → Lawful (memory_means v n ph)
memory_lawful v n ph = end_lawful (fits (vec_len v)) (held v n) (fits_hard (vec_len v)) (held_fits v n) ph

pub compare_lawful : (ref : List ℕ) (n : ℕ) (ph : Phase Fault) → Lawful (compare_means ref n ph)
compare_lawful ref n ph = end_lawful (matches ref) (take n ref) (matches_hard ref) (taken_matches ref n) ph

-- a reference permits itself, and may be closed on
pub whole_matches : (ref : List ℕ) → Permitted (matches ref).bars ref
whole_matches ref = matches_all ref [] ref [] (append-nil ref)

pub whole_ends : (ref : List ℕ) → (matches ref).ending ref ≡ None
whole_ends ref = rw (le-ltb (length ref) (length ref) (omega arith)) refl
