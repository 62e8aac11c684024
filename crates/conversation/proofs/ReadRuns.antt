-- What a reader comes to over bytes that nobody refuses.
use Rattle.std.proofs.Common.{◌≡◌, ℕ, List, [], ◌∷◌, ◌++◌, Some, None, Ok, Err, Option, Result, sym, refl, ap, ◌∙◌, ap₂, arith}
use Rattle.fault.specs.declared.fault.Fault.{Fault}
use Rattle.fault.specs.declared.cause.Cause.{Cause}
use Rattle.orders.specs.declared.phase.Phase.TheVariants.{Running}
use Rattle.orders.specs.Steps.{after, verdict, grown}
use Rattle.undo.specs.Undoing.{Undoing, next, taken_by, Undone, undone, undone_on}
use Rattle.taker.specs.Paragraph.{Order, Taker}
use Rattle.taker.specs.Events.{Event}
use Rattle.folding.proofs.Constructors.{some_none}
use Rattle.reading.specs.Machine.{State, Step, hands, refuses, step}
use Rattle.reading.specs.Runs.{Run, run, run_by}
use Rattle.reader.specs.Handing.{Handing, as_order, number_on, handed_by, hand, orders_for, more_unless}
use Rattle.reader.specs.Reading.{Reading, Read, handed_on, with_taker, stepped, undone_byte, settled, byte, bytes, then_read}
use Rattle.reader.proofs.Handing.{hand_append}
use Rattle.conversation.specs.Reads.{undone_orders, step_orders, byte_orders, chunk_orders}

-- what reading makes of the bytes given, by its first
pub data First (l : State) (c : ℕ) (cs : List ℕ) (es : List Event) (s : State) : Type 0 where
  first : {fs : List Event} {k : State} → step l c ≡ hands fs k → es ≡ fs ++ (run k cs).handed → run k cs ≡ record { handed = (run k cs).handed; left = Ok s } → First l c cs es s

pub first_of : (l : State) (c : ℕ) (cs : List ℕ) (es : List Event) (s : State) → run l (c ∷ cs) ≡ record { handed = es; left = Ok s } → First l c cs es s
first_of l c cs es s e = go (step l c) refl e
  where
    go : (x : Step) → step l c ≡ x → run_by x (λ k. run k cs) ≡ record { handed = es; left = Ok s } → First l c cs es s
    go (refuses d) q h =
        let bad : ◌≡◌ {A = Result State Cause} (Err d) (Ok s) = ap (λ (x : Run). x.left) h in
        let z : ◌≡◌ {A = ℕ} 0 1 = cc in absurd (omega arith)
    go (hands fs k) q h = first q (sym (ap (λ (x : Run). x.handed) h)) (ap (λ (x : Result State Cause). record { handed = (run k cs).handed; left = x }) (ap (λ (x : Run). x.left) h))

module _ {E : Type 0} where
  -- a reader that goes on
  abbrev pub at : Undoing → State → Taker E → ℕ → ℕ → Reading E
  at u l t n p = record { undo = u; line = l; taker = t; number = n; place = p; phase = Running }

  pub record Ran (r : Reading E) (bs : List ℕ) (es : List Event) (s : State) : Type 0 where
    pub place : ℕ
    pub undo : Undoing
    pub read : bytes r bs ≡ record { left = at undo s (hand r.taker r.number es).taker (hand r.taker r.number es).number place; fault = None }
    pub stop : undo.stop [] ≡ (undone r.undo bs).stop
    pub orders : chunk_orders r bs ≡ orders_for r.taker r.number es

  handed_none : (h g : Handing E) → (handed_by h.fault h.taker h.number g).fault ≡ None → (h.fault ≡ None) × (g.fault ≡ None)
  handed_none h g e = go h.fault e
    where
      go : (v : Option Fault) → (handed_by v h.taker h.number g).fault ≡ None → (v ≡ None) × (g.fault ≡ None)
      go None q = (refl, q)
      go (Some f) q = absurd (some_none q)

  pub orders_append : (es fs : List Event) (t : Taker E) (n : ℕ) → (hand t n es).fault ≡ None → orders_for t n (es ++ fs) ≡ orders_for t n es ++ orders_for (hand t n es).taker (hand t n es).number fs
  orders_append [] fs t n e = refl
  orders_append (x ∷ es) fs t n e = go (verdict t (as_order n x)) e (orders_append es fs (after t (as_order n x)) (number_on t n x))
    where
      o : Order
      o = as_order n x

      u : Taker E
      u = after t (as_order n x)

      k : ℕ
      k = number_on t n x

      go : (v : Option Fault) → (handed_by v u n (hand u k es)).fault ≡ None → ((hand u k es).fault ≡ None → orders_for u k (es ++ fs) ≡ orders_for u k es ++ orders_for (hand u k es).taker (hand u k es).number fs) → o ∷ more_unless v (orders_for u k (es ++ fs)) ≡ (o ∷ more_unless v (orders_for u k es)) ++ orders_for (handed_by v u n (hand u k es)).taker (handed_by v u n (hand u k es)).number fs
      go None q ih = ap (λ (l : List Order). o ∷ l) (ih q)
      go (Some f) q ih = absurd (some_none q)

  -- by a first byte that is accepted
  module _ (r s : Reading E) (b : ℕ) (bs : List ℕ) (e : byte r b ≡ record { left = s; fault = None }) where
    bytes_more : bytes r (b ∷ bs) ≡ bytes s bs
    bytes_more = ap (λ (x : Read E). then_read x.fault x.left (bytes x.left bs)) e

    orders_more : chunk_orders r (b ∷ bs) ≡ byte_orders r b ++ chunk_orders s bs
    orders_more = ap (λ (x : Read E). byte_orders r b ++ more_unless x.fault (chunk_orders x.left bs)) e

  pub ran : (bs : List ℕ) (u : Undoing) (l : State) (t : Taker E) (n p : ℕ) (es : List Event) (s : State) → (undone u bs).refused ≡ None → run l (undone u bs).given ≡ record { handed = es; left = Ok s } → (hand t n es).fault ≡ None → Ran (at u l t n p) bs es s
  ran [] u l t n p es s a b c =
      let none : [] ≡ es = ap (λ (x : Run). x.handed) b in
      let ok : ◌≡◌ {A = Result State Cause} (Ok l) (Ok s) = ap (λ (x : Run). x.left) b in
      let same : l ≡ s = cc in
      record {
        place = p;
        undo = u;
        read = (λ i. record { left = at u (same i) (hand t n (none i)).taker (hand t n (none i)).number p; fault = None });
        stop = refl;
        orders = ap (orders_for t n) none;
      }
  ran (b ∷ bs) u l t n p es s a h c = go (u.takes [] b) refl a h (ran bs (next b u))
    where
      u' : Undoing
      u' = next b u

      rest : Undone
      rest = undone (next b u) bs

      r : Reading E
      r = at u l t n p

      go : (x : Result (Option ℕ) Fault) → u.takes [] b ≡ x → (undone_on x rest).refused ≡ None → run l (undone_on x rest).given ≡ record { handed = es; left = Ok s } →
          ((l : State) (t : Taker E) (n p : ℕ) (es : List Event) (s : State) → rest.refused ≡ None → run l rest.given ≡ record { handed = es; left = Ok s } → (hand t n es).fault ≡ None → Ran (at u' l t n p) bs es s) → Ran r (b ∷ bs) es s
      go (Err f) q a h ih = absurd (some_none a)
      go (Ok None) q a h ih =
          let one : byte r b ≡ record { left = at u' l t n p; fault = None } = ap (λ (x : Result (Option ℕ) Fault). settled Running (undone_byte (at (taken_by x b u) l t n p) x)) q in
          let k = ih l t n p es s a h c in
          record {
            place = k.place;
            undo = k.undo;
            read = bytes_more r (at u' l t n p) b bs one ∙ k.read;
            stop = k.stop ∙ ap (λ (x : Result (Option ℕ) Fault). (undone_on x rest).stop) (sym q);
            orders = orders_more r (at u' l t n p) b bs one ∙ ap (λ (x : Result (Option ℕ) Fault). undone_orders r x ++ chunk_orders (at u' l t n p) bs) q ∙ k.orders;
          }
      go (Ok (Some d)) q a h ih = by (first_of l d rest.given es s h)
        where
          by : First l d rest.given es s → Ran r (b ∷ bs) es s
          by (first {fs} {k} st es_are left) =
              let g = hand t n fs in
              let more = (run k rest.given).handed in
              let both = handed_none g (hand g.taker g.number more) (sym (ap (λ (x : Handing E). x.fault) (ap (hand t n) es_are ∙ hand_append t n fs more)) ∙ c) in
              let s' = at u' k g.taker g.number (grown p) in
              let one : byte r b ≡ record { left = s'; fault = None } =
              ap (λ (x : Result (Option ℕ) Fault). settled Running (undone_byte (at (taken_by x b u) l t n p) x)) q
              ∙ ap (λ (x : Step). settled Running (stepped (at u' l t n p) x)) st
              ∙ ap (λ (v : Option Fault). settled Running (handed_on v (with_taker (at u' l t n p) g) k)) both.0 in
              let j = ih k g.taker g.number (grown p) more s a left both.1 in
              let same : hand t n es ≡ hand g.taker g.number more =
              ap (hand t n) es_are ∙ hand_append t n fs more ∙ ap (λ (v : Option Fault). handed_by v g.taker g.number (hand g.taker g.number more)) both.0 in
              record {
                place = j.place;
                undo = j.undo;
                read = bytes_more r s' b bs one ∙ j.read ∙ ap (λ (x : Handing E). record { left = at j.undo s x.taker x.number j.place; fault = None }) (sym same);
                stop = j.stop ∙ ap (λ (x : Result (Option ℕ) Fault). (undone_on x rest).stop) (sym q);
                orders =
                    orders_more r s' b bs one
                    ∙ ap (λ (x : Result (Option ℕ) Fault). undone_orders r x ++ chunk_orders s' bs) q
                    ∙ ap₂ (λ (x : Step) (y : List Order). step_orders r x ++ y) st j.orders
                    ∙ sym (orders_append fs more t n both.0)
                    ∙ ap (orders_for t n) (sym es_are);
              }
