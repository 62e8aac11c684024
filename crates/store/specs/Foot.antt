-- The foot of a store, by its records: how much of each it holds, and that this is permitted.
use Rattle.std.specs.Prelude.{◌≡◌, ℕ, ◌<◌, ◌≤◌, Bool, true, false, List, [], length, take, drop, Some, None, Option, slice_index_or, refl}
use Rattle.std.proofs.Common.{sym, ap, ◌∙◌, arith, length-take, eqb-true, eq-eqb}
use Rattle.std.proofs.lemmas.List.{take_more, drop_more}
use Rattle.orders.specs.Permits.{Permitted}
use Rattle.store.specs.declared.record.Record.{Record}
use Rattle.store.specs.Events.{opens_in, texts_in, holds, begun, done, being, told_by, tiled, ends_at, tiles_to, in_use}
use Rattle.store.specs.Tiles.{Last, tiled_last, opens_append, texts_append, opens_done, texts_done, opens_begun, texts_begun, holds_all}

abbrev pub blank : Record
blank = record { depth = 0; start = 0; length = 0 }

-- the n-th record
abbrev pub nth : List Record → ℕ → Record
nth rs n = slice_index_or rs n blank

pub being_nth : (records : List Record) (bytes : List ℕ) (n : ℕ) → n < length records → being true bytes (drop n records) ≡ begun bytes (nth records n)
being_nth records bytes n h = ap (being true bytes) (drop_more records n blank h)

-- the records in use lie behind one another up to u, within the bytes
pub record Filed (records : List Record) (bytes : List ℕ) (n : ℕ) (inside : Bool) (u : ℕ) : Type 0 where
  pub few : in_use n inside ≤ length records
  pub tiles : tiled 0 (take (in_use n inside) records) ≡ Some u
  pub room : u ≤ length bytes

-- the open paragraph's record is the last
pub last_open : (records : List Record) (bytes : List ℕ) (n u : ℕ) → Filed records bytes n true u → Last 0 (take n records) (nth records n) u
last_open records bytes n u h =
    let f = h.few in
    tiled_last 0 (take n records) (nth records n) u (ap (tiled 0) (sym (take_more records n blank (omega arith))) ∙ h.tiles)

pub foot_opens : (records : List Record) (bytes : List ℕ) (n : ℕ) (inside : Bool) (u : ℕ) → Filed records bytes n inside u → opens_in (told_by records bytes n inside) ≡ in_use n inside
foot_opens records bytes n false u h =
    let f = h.few in
    let a = opens_append (done bytes (take n records)) [] in
    let d = opens_done bytes (take n records) in
    let l = length-take n records in
    omega arith
foot_opens records bytes n true u h =
    let f = h.few in
    let a = opens_append (done bytes (take n records)) (being true bytes (drop n records)) in
    let d = opens_done bytes (take n records) in
    let l = length-take n records in
    let b = ap opens_in (being_nth records bytes n (omega arith)) ∙ opens_begun bytes (nth records n) in
    omega arith

pub foot_texts : (records : List Record) (bytes : List ℕ) (n : ℕ) (inside : Bool) (u : ℕ) → Filed records bytes n inside u → texts_in (told_by records bytes n inside) ≡ u
foot_texts records bytes n false u h =
    let a = texts_append (done bytes (take n records)) [] in
    let d = texts_done bytes 0 (take n records) u h.tiles h.room in
    omega arith
foot_texts records bytes n true u h =
    let f = h.few in
    let r = h.room in
    let w = last_open records bytes n u h in
    let e = w.ends in
    let a = texts_append (done bytes (take n records)) (being true bytes (drop n records)) in
    let d = texts_done bytes 0 (take n records) (nth records n).start w.others (omega arith) in
    let b = ap texts_in (being_nth records bytes n (omega arith)) ∙ texts_begun bytes (nth records n) (omega arith) in
    omega arith

pub foot_permitted : (records : List Record) (bytes : List ℕ) (n : ℕ) (inside : Bool) (u r : ℕ) → Filed records bytes n inside u → in_use n inside ≤ r → Permitted (holds r (length bytes)).bars (told_by records bytes n inside)
foot_permitted records bytes n inside u r h k =
    let o = foot_opens records bytes n inside u h in
    let t = foot_texts records bytes n inside u h in
    let m = h.room in
    holds_all r (length bytes) [] (told_by records bytes n inside) (omega arith) (omega arith)

ends_is : (v : Option ℕ) (u : ℕ) → ends_at v u ≡ true → v ≡ Some u
ends_is None u e = let z : ◌≡◌ {A = ℕ} 0 1 = cc in absurd (omega arith)
ends_is (Some v) u e = ap (λ (x : ℕ). Some x) (eqb-true v u e)

-- by the test that the store keeps
pub tiles_is : (rs : List Record) (u : ℕ) → tiles_to rs u ≡ true → tiled 0 rs ≡ Some u
tiles_is rs u e = ends_is (tiled 0 rs) u e

pub tiles_made : (rs : List Record) (u : ℕ) → tiled 0 rs ≡ Some u → tiles_to rs u ≡ true
tiles_made rs u e = ap (λ (v : Option ℕ). ends_at v u) e ∙ eq-eqb u u refl
