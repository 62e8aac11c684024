-- The foot after an order that was written.
use Rattle.std.proofs.Common.{◌≡◌, ℕ, ◌+◌, ◌*◌, ◌<◌, ◌≤◌, Bool, true, false, List, [], ◌∷◌, ◌++◌, length, take, drop, set, Some, sym, refl, ap, ◌∙◌, ap₂, append_assoc, append-nil, arith, length-append, length-drop, length-take}
use Rattle.std.specs.Int.{from_bool}
use Rattle.std.proofs.lemmas.List.{take-set, drop-set, drop-set-add, take_more, take_more_set}
use Rattle.orders.specs.Lists.{each}
use Rattle.store.specs.declared.record.Record.{Record}
use Rattle.store.specs.Events.{Event, opened, text, ended, text_of, begun, done, being, told_by, tiled, in_use}
use Rattle.store.specs.Contents.{longer}
use Rattle.store.specs.Tiles.{tiled_first, tiled_up, done_kept}
use Rattle.store.specs.Foot.{Filed, nth, blank, being_nth, last_open}

pub foot_open : (records : List Record) (bytes : List ℕ) (n u d : ℕ) → n < length records → told_by (set records n (record { depth = d; start = u; length = 0 })) bytes n true ≡ told_by records bytes n false ++ opened d ∷ []
foot_open records bytes n u d h =
    let r : Record = record { depth = d; start = u; length = 0 } in
    ap₂ (λ (x : List Record) (y : List Event). done bytes x ++ y) (take-set records n r) (ap (being true bytes) (drop-set records n r h))
    ∙ ap (λ (x : List Event). x ++ opened d ∷ []) (sym (append-nil (done bytes (take n records))))

each_push : (xs : List ℕ) (b : ℕ) → each text (xs ++ b ∷ []) [] ≡ each text xs [] ++ text b ∷ []
each_push [] b = refl
each_push (x ∷ xs) b = ap (λ (l : List Event). text x ∷ l) (each_push xs b)

text_push : (bytes : List ℕ) (r : Record) (u b : ℕ) → r.start + r.length ≡ u → u < length bytes → text_of (set bytes u b) (longer r) ≡ text_of bytes r ++ b ∷ []
text_push bytes r u b e h =
    let l = length-drop r.start bytes in
    ap (λ (x : ℕ). take (r.length + 1) (drop r.start (set bytes x b))) (sym e)
    ∙ ap (take (r.length + 1)) (drop-set-add r.start bytes r.length b)
    ∙ take_more_set (drop r.start bytes) r.length b (omega arith)

pub foot_text : (records : List Record) (bytes : List ℕ) (n u b : ℕ) → Filed records bytes n true u → u < length bytes → told_by (set records n (longer (nth records n))) (set bytes u b) n true ≡ told_by records bytes n true ++ text b ∷ []
foot_text records bytes n u b h k =
    let f = h.few in
    let r = nth records n in
    let w = last_open records bytes n u h in
    let e = w.ends in
    let old = done bytes (take n records) in
    let now = begun bytes r in
    ap₂ (λ (x : List Record) (y : List Event). done (set bytes u b) x ++ y) (take-set records n (longer r)) (ap (being true (set bytes u b)) (drop-set records n (longer r) (omega arith)))
    ∙ ap₂ (λ (x y : List Event). x ++ y) (done_kept bytes u b 0 (take n records) r.start w.others (omega arith)) (ap (λ (t : List ℕ). opened r.depth ∷ each text t []) (text_push bytes r u b e k) ∙ ap (λ (l : List Event). opened r.depth ∷ l) (each_push (text_of bytes r) b))
    ∙ sym (append_assoc old now (text b ∷ []))
    ∙ ap (λ (x : List Event). (old ++ x) ++ text b ∷ []) (sym (being_nth records bytes n (omega arith)))

done_push : (bytes : List ℕ) (rs : List Record) (r : Record) → done bytes (rs ++ r ∷ []) ≡ done bytes rs ++ (begun bytes r ++ ended ∷ [])
done_push bytes [] r = append-nil (begun bytes r ++ ended ∷ [])
done_push bytes (q ∷ rs) r = ap (λ (l : List Event). (begun bytes q ++ ended ∷ []) ++ l) (done_push bytes rs r) ∙ sym (append_assoc (begun bytes q ++ ended ∷ []) (done bytes rs) (begun bytes r ++ ended ∷ []))

pub foot_end : (records : List Record) (bytes : List ℕ) (n : ℕ) → n < length records → told_by records bytes (n + 1) false ≡ told_by records bytes n true ++ ended ∷ []
foot_end records bytes n h =
    let r = nth records n in
    append-nil (done bytes (take (n + 1) records))
    ∙ ap (done bytes) (take_more records n blank h)
    ∙ done_push bytes (take n records) r
    ∙ sym (append_assoc (done bytes (take n records)) (begun bytes r) (ended ∷ []))
    ∙ ap (λ (x : List Event). (done bytes (take n records) ++ x) ++ ended ∷ []) (sym (being_nth records bytes n h))

-- the foot's length
long_each : (bs : List ℕ) → length (each text bs []) ≡ length bs
long_each [] = refl
long_each (b ∷ bs) = let h = long_each bs in omega arith

long_begun : (bytes : List ℕ) (r : Record) → r.start + r.length ≤ length bytes → length (begun bytes r) ≡ r.length + 1
long_begun bytes r h =
    let e = long_each (text_of bytes r) in
    let k = length-take r.length (drop r.start bytes) in
    let l = length-drop r.start bytes in
    omega arith

long_done : (bytes : List ℕ) (a : ℕ) (rs : List Record) (u : ℕ) → tiled a rs ≡ Some u → u ≤ length bytes → a + length (done bytes rs) ≡ u + 2 * length rs
long_done bytes a [] u e h = let q : a ≡ u = cc in omega arith
long_done bytes a (r ∷ rs) u e h =
    let f = tiled_first a r rs u e in
    let up = tiled_up (a + r.length) rs u f.rest in
    let s = f.start in
    let ih = long_done bytes (a + r.length) rs u f.rest h in
    let b = long_begun bytes r (omega arith) in
    let x = length-append (begun bytes r ++ ended ∷ []) (done bytes rs) in
    let y = length-append (begun bytes r) (ended ∷ []) in
    omega arith

pub in_use_by : (n : ℕ) (i : Bool) → n + from_bool i ≡ in_use n i
in_use_by n true = refl
in_use_by n false = omega arith

pub foot_long : (records : List Record) (bytes : List ℕ) (n : ℕ) (i : Bool) (u : ℕ) → Filed records bytes n i u → length (told_by records bytes n i) ≡ u + n + in_use n i
foot_long records bytes n false u h =
    let f = h.few in
    let d = long_done bytes 0 (take n records) u h.tiles h.room in
    let x = length-append (done bytes (take n records)) [] in
    let l = length-take n records in
    omega arith
foot_long records bytes n true u h =
    let f = h.few in
    let m = h.room in
    let w = last_open records bytes n u h in
    let e = w.ends in
    let d = long_done bytes 0 (take n records) (nth records n).start w.others (omega arith) in
    let x = length-append (done bytes (take n records)) (being true bytes (drop n records)) in
    let b = ap length (being_nth records bytes n (omega arith)) ∙ long_begun bytes (nth records n) (omega arith) in
    let l = length-take n records in
    omega arith
