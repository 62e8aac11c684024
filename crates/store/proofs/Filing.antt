-- The records in use go on lying behind one another.
use Rattle.std.proofs.Common.{◌≡◌, ℕ, ◌+◌, ◌<◌, Bool, true, false, List, length, take, set, Some, refl, ap, ◌∙◌, arith}
use Rattle.std.proofs.lemmas.List.{take_more_set}
use Rattle.store.specs.declared.record.Record.{Record}
use Rattle.store.specs.Events.{tiled, tiles_to, in_use}
use Rattle.store.specs.Contents.{longer}
use Rattle.store.specs.Tiles.{tiled_push}
use Rattle.store.specs.Foot.{Filed, nth, last_open, tiles_made}

pub open_tiles : (records : List Record) (bytes : List ℕ) (n u d : ℕ) (i : Bool) → i ≡ false → Filed records bytes n i u → n < length records → tiles_to (take (in_use n true) (set records n (record { depth = d; start = u; length = 0 }))) u ≡ true
open_tiles records bytes n u d false e h l =
    let r : Record = record { depth = d; start = u; length = 0 } in
    let t = tiled_push 0 (take n records) r u h.tiles refl in
    let z : u + 0 ≡ u = omega arith in
    tiles_made (take (in_use n true) (set records n r)) u (ap (tiled 0) (take_more_set records n r l) ∙ t ∙ ap (λ (x : ℕ). Some x) z)
open_tiles records bytes n u d true e h l = let z : ◌≡◌ {A = ℕ} 0 1 = cc in absurd (omega arith)

-- the open paragraph's text ends where the used bytes do
pub open_ends : (records : List Record) (bytes : List ℕ) (n u : ℕ) (i : Bool) → i ≡ true → Filed records bytes n i u → (nth records n).start + (nth records n).length ≡ u
open_ends records bytes n u true e h = (last_open records bytes n u h).ends
open_ends records bytes n u false e h = let z : ◌≡◌ {A = ℕ} 0 1 = cc in absurd (omega arith)

pub text_tiles : (records : List Record) (bytes : List ℕ) (n u : ℕ) (i : Bool) → i ≡ true → Filed records bytes n i u → (r : Record) → r ≡ nth records n → tiles_to (take (in_use n i) (set records n (longer r))) (u + 1) ≡ true
text_tiles records bytes n u true e h r q =
    let f = h.few in
    let w = last_open records bytes n u h in
    let s = w.ends in
    let t = tiled_push 0 (take n records) (longer r) (nth records n).start w.others (ap (λ (x : Record). x.start) q) in
    let k : (nth records n).start + (r.length + 1) ≡ u + 1 = let y = ap (λ (x : Record). x.length) q in omega arith in
    tiles_made (take (in_use n true) (set records n (longer r))) (u + 1) (ap (tiled 0) (take_more_set records n (longer r) (omega arith)) ∙ t ∙ ap (λ (x : ℕ). Some x) k)
text_tiles records bytes n u false e h r q = let z : ◌≡◌ {A = ℕ} 0 1 = cc in absurd (omega arith)
