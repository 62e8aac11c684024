-- What orders leave of the caller's records and bytes.
use Rattle.std.specs.Prelude.{◌≡◌, ℕ, ◌+◌, ◌-◌, ◌≤◌, Bool, true, false, List, take, drop, refl}
use Rattle.std.proofs.Common.{sym, ap, ◌∙◌, arith, drop-drop}
use Rattle.std.proofs.lemmas.List.{take-take}
use Rattle.store.specs.declared.store.Store.{Store}
use Rattle.store.specs.Events.{in_use}
use Rattle.store.specs.Contents.{Contents, contents}

-- the first k cells stay, and so do those behind the first n; k grows into n
pub record Stay {X : Type 0} (k n : ℕ) (old new : List X) : Type 0 where
  pub front : take k new ≡ take k old
  pub behind : drop n new ≡ drop n old
  pub grown : k ≤ n

pub stay_all : {X : Type 0} (k n : ℕ) (xs : List X) → k ≤ n → Stay k n xs xs
stay_all k n xs h = record { front = refl; behind = refl; grown = h }

drops : {X : Type 0} (n m : ℕ) (l : List X) → n ≤ m → drop m l ≡ drop (m - n) (drop n l)
drops n m l h =
    let e : m ≡ n + (m - n) = omega arith in
    ap (λ (z : ℕ). drop z l) e ∙ sym (drop-drop (m - n) n l)

takes : {X : Type 0} (k j : ℕ) (x y : List X) → k ≤ j → take j x ≡ take j y → take k x ≡ take k y
takes {X} k j x y h e = sym (take-take k j x h) ∙ ap (λ (l : List X). take k l) e ∙ take-take k j y h

pub stay_then : {X : Type 0} (k n j m : ℕ) (x y z : List X) → Stay k n x y → Stay j m y z → k ≤ j → n ≤ m → Stay k m x z
stay_then {X} k n j m x y z p q h g =
    let a = q.grown in
    record {
      front = takes k j z y h q.front ∙ p.front;
      behind = q.behind ∙ drops n m y g ∙ ap (λ (l : List X). drop (m - n) l) p.behind ∙ sym (drops n m x g);
      grown = let b = p.grown in omega arith;
    }

-- records of ended paragraphs stay, text bytes stay, and so does all that is not in use
pub record Kept (a b : Contents) : Type 0 where
  pub ended : a.count ≤ b.count
  pub records_grow : in_use a.count a.inside ≤ in_use b.count b.inside
  pub bytes_grow : a.used ≤ b.used
  pub records : Stay a.count (in_use b.count b.inside) a.records b.records
  pub bytes : Stay a.used b.used a.bytes b.bytes

abbrev pub Keeps : Store → Store → Type 0
Keeps a b = Kept (contents a) (contents b)

in_use_up : (n : ℕ) (i : Bool) → n ≤ in_use n i
in_use_up n true = omega arith
in_use_up n false = omega arith

pub kept_same : (a : Contents) → Kept a a
kept_same a = record {
  ended = omega arith;
  records_grow = omega arith;
  bytes_grow = omega arith;
  records = stay_all a.count (in_use a.count a.inside) a.records (in_use_up a.count a.inside);
  bytes = stay_all a.used a.used a.bytes (omega arith);
}

pub kept_then : (a b c : Contents) → Kept a b → Kept b c → Kept a c
kept_then a b c p q =
    let e = p.ended in
    let f = q.ended in
    let g = p.records_grow in
    let h = q.records_grow in
    let i = p.bytes_grow in
    let j = q.bytes_grow in
    record {
      ended = omega arith;
      records_grow = omega arith;
      bytes_grow = omega arith;
      records = stay_then a.count (in_use b.count b.inside) b.count (in_use c.count c.inside) a.records b.records c.records p.records q.records p.ended q.records_grow;
      bytes = stay_then a.used b.used b.used c.used a.bytes b.bytes c.bytes p.bytes q.bytes p.bytes_grow q.bytes_grow;
    }

pub keeps_same : (a : Store) → Keeps a a
keeps_same a = kept_same (contents a)

pub keeps_then : (a b c : Store) → Keeps a b → Keeps b c → Keeps a c
keeps_then a b c p q = kept_then (contents a) (contents b) (contents c) p q
