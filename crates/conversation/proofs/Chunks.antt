-- Bytes read in chunks are read as a whole.
use Rattle.std.proofs.Common.{◌≡◌, ℕ, List, [], ◌∷◌, ◌++◌, length, Some, None, Option, sym, refl, ap, ◌∙◌, ap₂, append_assoc, arith}
use Rattle.fault.specs.declared.fault.Fault.{Fault}
use Rattle.taker.specs.Paragraph.{Order}
use Rattle.folding.proofs.Constructors.{some_none}
use Rattle.reader.specs.Handing.{more_unless}
use Rattle.reader.specs.Reading.{Reading, Read, byte, bytes, then_read, accepted, counted_by}
use Rattle.conversation.specs.Reads.{StepRead, fed, finished, byte_orders, chunk_orders, Reads, begun, feeds, finishes, OnlyFeeds, fed_bytes, AllTaken}
use Rattle.conversation.specs.Reads as reads

module _ {E : Type 0} where
  then_again : (v : Option Fault) (r : Reading E) (x : Read E) (next : Reading E → Read E) → then_read (then_read v r x).fault (then_read v r x).left (next (then_read v r x).left) ≡ then_read v r (then_read x.fault x.left (next x.left))
  then_again None r x next = refl
  then_again (Some f) r x next = refl

  pub bytes_append : (xs ys : List ℕ) (r : Reading E) → bytes r (xs ++ ys) ≡ then_read (bytes r xs).fault (bytes r xs).left (bytes (bytes r xs).left ys)
  bytes_append [] ys r = refl
  bytes_append (b ∷ xs) ys r =
      let s = (byte r b).left in
      ap (then_read (byte r b).fault s) (bytes_append xs ys s) ∙ sym (then_again (byte r b).fault s (bytes s xs) (λ k. bytes k ys))

  then_none : (v : Option Fault) (r : Reading E) (x : Read E) → (then_read v r x).fault ≡ None → (v ≡ None) × (x.fault ≡ None)
  then_none None r x e = (refl, e)
  then_none (Some f) r x e = absurd (some_none e)

  -- where the whole is refused nowhere, neither is a part
  pub record Parts (r : Reading E) (xs ys : List ℕ) : Type 0 where
    pub front : (bytes r xs).fault ≡ None
    pub rest : (bytes (bytes r xs).left ys).fault ≡ None
    pub left : (bytes r (xs ++ ys)).left ≡ (bytes (bytes r xs).left ys).left

  pub parts : (r : Reading E) (xs ys : List ℕ) → (bytes r (xs ++ ys)).fault ≡ None → Parts r xs ys
  parts r xs ys e =
      let w = bytes_append xs ys r in
      let s = (bytes r xs).left in
      let h = then_none (bytes r xs).fault s (bytes s ys) (sym (ap (λ (x : Read E). x.fault) w) ∙ e) in
      record {
        front = h.0;
        rest = h.1;
        left = ap (λ (x : Read E). x.left) w ∙ ap (λ (v : Option Fault). (then_read v s (bytes s ys)).left) h.0;
      }

  pub all_accepted : (xs : List ℕ) (r : Reading E) → (bytes r xs).fault ≡ None → accepted r xs ≡ length xs
  all_accepted [] r e = refl
  all_accepted (b ∷ xs) r e =
      let s = (byte r b).left in
      let h = then_none (byte r b).fault s (bytes s xs) e in
      let c = ap (λ (v : Option Fault). counted_by v (accepted s xs)) h.0 in
      let ih = all_accepted xs s h.1 in
      omega arith

  pub orders_parts : (xs ys : List ℕ) (r : Reading E) → (bytes r xs).fault ≡ None → chunk_orders r (xs ++ ys) ≡ chunk_orders r xs ++ chunk_orders (bytes r xs).left ys
  orders_parts [] ys r e = refl
  orders_parts (b ∷ xs) ys r e =
      let s = (byte r b).left in
      let h = then_none (byte r b).fault s (bytes s xs) e in
      ap (λ (v : Option Fault). byte_orders r b ++ more_unless v (chunk_orders s (xs ++ ys))) h.0
      ∙ ap (λ (l : List Order). byte_orders r b ++ l) (orders_parts xs ys s h.1)
      ∙ sym (append_assoc (byte_orders r b) (chunk_orders s xs) (chunk_orders (bytes s xs).left ys))
      ∙ ap (λ (v : Option Fault). (byte_orders r b ++ more_unless v (chunk_orders s xs)) ++ chunk_orders (then_read v s (bytes s xs)).left ys) (sym h.0)

  -- a run of feeds, of bytes that are refused nowhere as a whole
  pub record Cut (start : Reading E) (g : List StepRead) (os : List Order) (r : Reading E) : Type 0 where
    pub left : r ≡ (bytes start (fed_bytes g)).left
    pub orders : os ≡ chunk_orders start (fed_bytes g)
    pub taken : AllTaken g

  pub cut : (start : Reading E) (g : List StepRead) (os : List Order) (r : Reading E) → OnlyFeeds g → Reads start g os r → (bytes start (fed_bytes g)).fault ≡ None → Cut start g os r
  cut start [] os r o (begun e) h = record { left = e; orders = refl; taken = reads.none }
  cut start (fed bs c f ∷ g) os s (reads.feed o) (feeds {os = os'} {r = r} p _ _ _ i j k) h =
      let x = parts start (fed_bytes g) bs h in
      let ih = cut start g os' r o p x.front in
      let before = ih.left in
      let none : (bytes r bs).fault ≡ None = ap (λ (y : Reading E). (bytes y bs).fault) before ∙ x.rest in
      record {
        left = k ∙ ap (λ (y : Reading E). (bytes y bs).left) before ∙ sym x.left;
        orders = ap₂ (λ (y : List Order) (z : Reading E). y ++ chunk_orders z bs) ih.orders before ∙ sym (orders_parts (fed_bytes g) bs start x.front);
        taken = reads.feed ih.taken (i ∙ all_accepted bs r none) (j ∙ none);
      }
  cut start (finished a ∷ g) os r o p h = elim o [ ]
