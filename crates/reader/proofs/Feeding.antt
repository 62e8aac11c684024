-- A chunk's bytes, by what is still to come.
use Rattle.std.proofs.Common.{◌≡◌, ℕ, ◌+◌, List, ◌∷◌, Some, None, Option, sym, ap, ◌∙◌, arith}
use Rattle.fault.specs.declared.fault.Fault.{Fault}
use Rattle.reader.specs.Reading.{Reading, Read, byte, then_read, bytes, counted_by, accepted}

-- after i bytes of all, with rest still to come, the reading is n, where it was r
pub record Rest {E : Type 0} (r n : Reading E) (i : ℕ) (all rest : List ℕ) : Type 0 where
  pub taken : i + accepted n rest ≡ accepted r all
  pub fault : (bytes n rest).fault ≡ (bytes r all).fault
  pub left : (bytes n rest).left ≡ (bytes r all).left

module _ {E : Type 0} (r n : Reading E) (i : ℕ) (all : List ℕ) (b : ℕ) (rest : List ℕ) (h : Rest r n i all (b ∷ rest)) where
  abbrev n' : Reading E
  n' = (byte n b).left

  on : (v : Option Fault) → (byte n b).fault ≡ v → bytes n (b ∷ rest) ≡ then_read v n' (bytes n' rest)
  on v e = ap (λ (x : Option Fault). then_read x n' (bytes n' rest)) e

  -- refused, and the fault
  pub refused_at : (f : Fault) → (byte n b).fault ≡ Some f → (i ≡ accepted r all) × (Some f ≡ (bytes r all).fault) × (n' ≡ (bytes r all).left)
  refused_at f v =
      let t = ap (λ (x : Option Fault). counted_by x (accepted n' rest)) v in
      let q = h.taken in
      let o = on (Some f) v in
      (omega arith, sym (ap (λ (x : Read E). x.fault) o) ∙ h.fault, sym (ap (λ (x : Read E). x.left) o) ∙ h.left)

  pub accepted_at : (m : Reading E) → (byte n b).fault ≡ None → m ≡ n' → Rest r m (i + 1) all rest
  accepted_at m v e =
      let t = ap (λ (x : Option Fault). counted_by x (accepted n' rest)) v in
      let a = ap (λ (x : Reading E). accepted x rest) e in
      let q = h.taken in
      let o = on None v in
      record {
        taken = omega arith;
        fault = ap (λ (x : Reading E). (bytes x rest).fault) e ∙ sym (ap (λ (x : Read E). x.fault) o) ∙ h.fault;
        left = ap (λ (x : Reading E). (bytes x rest).left) e ∙ sym (ap (λ (x : Read E). x.left) o) ∙ h.left;
      }
