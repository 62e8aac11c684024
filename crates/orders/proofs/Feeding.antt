-- A chunk's bytes, by what is still to come: for every kind of takers.
use Rattle.std.proofs.Common.{◌≡◌, ℕ, ◌+◌, List, [], ◌∷◌, Some, None, sym, ap, ◌∙◌, arith}
use Rattle.fault.specs.declared.fault.Fault.{Fault}
use Rattle.fault.specs.Answers.{or_else}
use Rattle.orders.specs.Meaning.{Kind, Meaning}
use Rattle.orders.specs.Steps.{after, verdict}
use Rattle.orders.specs.Lists.{sent, sent_on, sent_fault, count, count_on, each}

-- after i bytes of all, each ordered by f, with rest still to come, the taker means n, where it meant m
pub record Rest {k : Kind} {E : Type 0} (f : ℕ → k.Order) (m n : Meaning k E) (i : ℕ) (all rest : List ℕ) : Type 0 where
  pub taken : i + count n (each f rest []) ≡ count m (each f all [])
  pub fault : sent_fault n (each f rest []) ≡ sent_fault m (each f all [])
  pub changed : sent n (each f rest []) ≡ sent m (each f all [])

module _ {k : Kind} {E : Type 0} (f : ℕ → k.Order) (m n : Meaning k E) (i : ℕ) (all : List ℕ) (b : ℕ) (rest : List ℕ) (h : Rest f m n i all (b ∷ rest)) where
  abbrev n' : Meaning k E
  n' = after n (f b)

  abbrev os : List k.Order
  os = each f rest []

  pub refused : (g : Fault) → verdict n (f b) ≡ Some g → (i ≡ count m (each f all [])) × (n' ≡ sent m (each f all []))
  refused g v =
      let t = ap (λ x. count_on x (count n' os)) v in
      let q = h.taken in
      (omega arith, sym (ap (λ x. sent_on x n' (sent n' os)) v) ∙ h.changed)

  pub accepted : verdict n (f b) ≡ None → Rest f m n' (i + 1) all rest
  accepted v =
      let t = ap (λ x. count_on x (count n' os)) v in
      let q = h.taken in
      record {
        taken = omega arith;
        fault = sym (ap (λ x. or_else x (sent_fault n' os)) v) ∙ h.fault;
        changed = sym (ap (λ x. sent_on x n' (sent n' os)) v) ∙ h.changed;
      }

  pub its_fault : (g : Fault) → verdict n (f b) ≡ Some g → Some g ≡ sent_fault m (each f all [])
  its_fault g v = sym (ap (λ x. or_else x (sent_fault n' os)) v) ∙ h.fault
