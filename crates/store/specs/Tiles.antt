-- Records that lie behind one another, and what they tell.
use Rattle.std.specs.Prelude.{◌≡◌, ℕ, ◌+◌, ◌-◌, ◌≤◌, Bool, true, false, List, [], ◌∷◌, ◌++◌, length, take, drop, Some, None, Option, ◌==◌, nat_lt, slice_set, refl}
use Rattle.std.proofs.Common.{sym, ap, ap₂, ◌∙◌, append-nil, append_assoc, arith, length-take, length-drop, eqb-true, eq-eqb, lt-ltb}
use Rattle.std.proofs.lemmas.List.{drop-set-add, take-set-le}
use Rattle.fault.specs.declared.fault.Fault.{Fault}
use Rattle.orders.specs.Permits.{fill, filled, all_of}
use Rattle.orders.specs.Lists.{each}
use Rattle.store.specs.declared.record.Record.{Record}
use Rattle.store.specs.Events.{Event, opened, text, ended, opens_in, texts_in, if_room, holds, text_of, begun, done, go_on, tiled}

-- a record in front
pub record First (a : ℕ) (r : Record) (rs : List Record) (u : ℕ) : Type 0 where
  pub start : r.start ≡ a
  pub rest : tiled (a + r.length) rs ≡ Some u

pub tiled_first : (a : ℕ) (r : Record) (rs : List Record) (u : ℕ) → tiled a (r ∷ rs) ≡ Some u → First a r rs u
tiled_first a r rs u e = go (r.start == a) refl e
  where
    go : (x : Bool) → (r.start == a) ≡ x → go_on x (tiled (a + r.length) rs) ≡ Some u → First a r rs u
    go true q h = record { start = eqb-true r.start a q; rest = h }
    go false q h = let z : ◌≡◌ {A = ℕ} 0 1 = cc in absurd (omega arith)

pub tiled_cons : (a : ℕ) (r : Record) (rs : List Record) (u : ℕ) → First a r rs u → tiled a (r ∷ rs) ≡ Some u
tiled_cons a r rs u h = ap (λ (x : Bool). go_on x (tiled (a + r.length) rs)) (eq-eqb r.start a h.start) ∙ h.rest

pub tiled_up : (a : ℕ) (rs : List Record) (u : ℕ) → tiled a rs ≡ Some u → a ≤ u
tiled_up a [] u e = let q : a ≡ u = cc in omega arith
tiled_up a (r ∷ rs) u e = let h = tiled_first a r rs u e in let k = tiled_up (a + r.length) rs u h.rest in omega arith

-- a record behind
pub tiled_push : (a : ℕ) (rs : List Record) (r : Record) (u : ℕ) → tiled a rs ≡ Some u → r.start ≡ u → tiled a (rs ++ r ∷ []) ≡ Some (u + r.length)
tiled_push a [] r u e s =
    let q : a ≡ u = cc in
    tiled_cons a r [] (u + r.length) (record { start = s ∙ sym q; rest = ap (λ (x : ℕ). Some (x + r.length)) q })
tiled_push a (q ∷ rs) r u e s =
    let h = tiled_first a q rs u e in
    tiled_cons a q (rs ++ r ∷ []) (u + r.length) (record { start = h.start; rest = tiled_push (a + q.length) rs r u h.rest s })

-- the last record lies behind the others
pub record Last (a : ℕ) (rs : List Record) (r : Record) (u : ℕ) : Type 0 where
  pub others : tiled a rs ≡ Some r.start
  pub ends : r.start + r.length ≡ u

pub tiled_last : (a : ℕ) (rs : List Record) (r : Record) (u : ℕ) → tiled a (rs ++ r ∷ []) ≡ Some u → Last a rs r u
tiled_last a [] r u e =
    let h = tiled_first a r [] u e in
    let k = h.rest in
    let q : a + r.length ≡ u = cc in
    let s = h.start in
    record { others = ap (λ (x : ℕ). Some x) (sym s); ends = omega arith }
tiled_last a (q ∷ rs) r u e =
    let h = tiled_first a q (rs ++ r ∷ []) u e in
    let k = tiled_last (a + q.length) rs r u h.rest in
    record { others = tiled_cons a q rs r.start (record { start = h.start; rest = k.others }); ends = k.ends }

-- a byte behind a paragraph's text does not change it
text_kept : (bytes : List ℕ) (r : Record) (n b : ℕ) → r.start + r.length ≤ n → text_of (slice_set bytes n b) r ≡ text_of bytes r
text_kept bytes r n b h =
    let k = n - r.start in
    let e : n ≡ r.start + k = omega arith in
    ap (λ (x : ℕ). take r.length (drop r.start (slice_set bytes x b))) e
    ∙ ap (take r.length) (drop-set-add r.start bytes k b)
    ∙ take-set-le r.length (drop r.start bytes) k b (omega arith)

pub done_kept : (bytes : List ℕ) (n b a : ℕ) (rs : List Record) (u : ℕ) → tiled a rs ≡ Some u → u ≤ n → done (slice_set bytes n b) rs ≡ done bytes rs
done_kept bytes n b a [] u e h = refl
done_kept bytes n b a (r ∷ rs) u e h =
    let f = tiled_first a r rs u e in
    let k = tiled_up (a + r.length) rs u f.rest in
    let s = f.start in
    ap₂ (λ (x y : List Event). x ++ y) (ap (λ (t : List ℕ). opened r.depth ∷ each text t [] ++ ended ∷ []) (text_kept bytes r n b (omega arith))) (done_kept bytes n b (a + r.length) rs u f.rest h)

-- counts
pub opens_append : (xs ys : List Event) → opens_in (xs ++ ys) ≡ opens_in xs + opens_in ys
opens_append [] ys = omega arith
opens_append (opened d ∷ xs) ys = let h = opens_append xs ys in omega arith
opens_append (text b ∷ xs) ys = opens_append xs ys
opens_append (ended ∷ xs) ys = opens_append xs ys

pub texts_append : (xs ys : List Event) → texts_in (xs ++ ys) ≡ texts_in xs + texts_in ys
texts_append [] ys = omega arith
texts_append (opened d ∷ xs) ys = texts_append xs ys
texts_append (text b ∷ xs) ys = let h = texts_append xs ys in omega arith
texts_append (ended ∷ xs) ys = texts_append xs ys

opens_each : (bs : List ℕ) → opens_in (each text bs []) ≡ 0
opens_each [] = refl
opens_each (b ∷ bs) = opens_each bs

texts_each : (bs : List ℕ) → texts_in (each text bs []) ≡ length bs
texts_each [] = refl
texts_each (b ∷ bs) = let h = texts_each bs in omega arith

pub opens_done : (bytes : List ℕ) (rs : List Record) → opens_in (done bytes rs) ≡ length rs
opens_done bytes [] = refl
opens_done bytes (r ∷ rs) =
    let h = opens_done bytes rs in
    let k = opens_append (begun bytes r ++ ended ∷ []) (done bytes rs) in
    let l = opens_append (begun bytes r) (ended ∷ []) in
    let m = opens_each (text_of bytes r) in
    omega arith

text_long : (bytes : List ℕ) (r : Record) → r.start + r.length ≤ length bytes → length (text_of bytes r) ≡ r.length
text_long bytes r h =
    let k = length-take r.length (drop r.start bytes) in
    let l = length-drop r.start bytes in
    omega arith

pub texts_done : (bytes : List ℕ) (a : ℕ) (rs : List Record) (u : ℕ) → tiled a rs ≡ Some u → u ≤ length bytes → a + texts_in (done bytes rs) ≡ u
texts_done bytes a [] u e h = let q : a ≡ u = cc in omega arith
texts_done bytes a (r ∷ rs) u e h =
    let f = tiled_first a r rs u e in
    let up = tiled_up (a + r.length) rs u f.rest in
    let s = f.start in
    let t = texts_done bytes (a + r.length) rs u f.rest h in
    let k = texts_append (begun bytes r ++ ended ∷ []) (done bytes rs) in
    let l = texts_append (begun bytes r) (ended ∷ []) in
    let m = texts_each (text_of bytes r) in
    let w = text_long bytes r (omega arith) in
    omega arith

pub opens_begun : (bytes : List ℕ) (r : Record) → opens_in (begun bytes r) ≡ 1
opens_begun bytes r = let m = opens_each (text_of bytes r) in omega arith

pub texts_begun : (bytes : List ℕ) (r : Record) → r.start + r.length ≤ length bytes → texts_in (begun bytes r) ≡ r.length
texts_begun bytes r h = let m = texts_each (text_of bytes r) in let w = text_long bytes r h in omega arith

-- what fits is permitted
step : (bars : List Event → Event → Option Fault) (foot : List Event) (x : Event) (xs : List Event) → bars foot x ≡ None → fill bars (foot ++ (x ∷ [])) xs ≡ all_of ((foot ++ (x ∷ [])) ++ xs) → fill bars foot (x ∷ xs) ≡ all_of (foot ++ (x ∷ xs))
step bars foot x xs e ih = ap (λ (v : Option Fault). filled v foot (fill bars (foot ++ (x ∷ [])) xs)) e ∙ ih ∙ ap all_of (append_assoc foot (x ∷ []) xs)

pub room_none : (x : Bool) (p : List Event) → x ≡ true → if_room x p ≡ None
room_none true p e = refl
room_none false p e = let z : ◌≡◌ {A = ℕ} 0 1 = cc in absurd (omega arith)

pub holds_all : (r n : ℕ) (foot xs : List Event) → opens_in foot + opens_in xs ≤ r → texts_in foot + texts_in xs ≤ n → fill (holds r n).bars foot xs ≡ all_of (foot ++ xs)
holds_all r n foot [] h k = ap all_of (sym (append-nil foot))
holds_all r n foot (opened d ∷ xs) h k =
    let o = opens_append foot (opened d ∷ []) in
    let t = texts_append foot (opened d ∷ []) in
    step (holds r n).bars foot (opened d) xs (room_none (nat_lt (opens_in foot) r) foot (lt-ltb (opens_in foot) r (omega arith))) (holds_all r n (foot ++ (opened d ∷ [])) xs (omega arith) (omega arith))
holds_all r n foot (text b ∷ xs) h k =
    let o = opens_append foot (text b ∷ []) in
    let t = texts_append foot (text b ∷ []) in
    step (holds r n).bars foot (text b) xs (room_none (nat_lt (texts_in foot) n) foot (lt-ltb (texts_in foot) n (omega arith))) (holds_all r n (foot ++ (text b ∷ [])) xs (omega arith) (omega arith))
holds_all r n foot (ended ∷ xs) h k =
    let o = opens_append foot (ended ∷ []) in
    let t = texts_append foot (ended ∷ []) in
    step (holds r n).bars foot ended xs refl (holds_all r n (foot ++ (ended ∷ [])) xs (omega arith) (omega arith))
