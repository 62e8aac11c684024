-- Breaks of a text, of a longer text, and of what is left of it.
use Rattle.std.proofs.Common.{◌≡◌, ℕ, zero, suc, ◌+◌, ◌<◌, min, false, ◌++◌, length, take, drop, sym, refl, ap, ◌∙◌, arith, length-append, length-drop, length-take, length-take-le, take-take, take-add}
use lib.Seq.{take-append-le}
use Rattle.std.proofs.lemmas.Bool.{both_ways}
use Rattle.folding.specs.Text.{Text, signature, ends_in_space}
use Rattle.folding.specs.Breaks.{Break, Unbroken}
use Rattle.folding.proofs.Spaces.{some_from_ends, ends_append}

-- a piece that ends at a break is not empty
pub break_some : (t : Text) (n : ℕ) → Break t n → 0 < n
break_some t zero b = absurd (both_ways false refl b.behind_space)
break_some t (suc n) b = omega arith

pub break_length : (t : Text) (n : ℕ) → Break t n → length (take n t) ≡ n
break_length t n b = length-take-le n t (omega (arith, b.before_text))

-- a break depends on the piece alone, where text follows it
pub break_like : (t u : Text) (n : ℕ) → take n t ≡ take n u → n < length u → Break t n → Break u n
break_like t u n e l b = record {
  behind_space = ap ends_in_space (sym e) ∙ b.behind_space;
  before_text = l;
  unsigned = λ q. b.unsigned (e ∙ q);
}

module _ (t u : Text) (n : ℕ) where
  pub break_on : Break t n → Break (t ++ u) n
  break_on b =
      let l = b.before_text in
      break_like t (t ++ u) n (sym (take-append-le n t u (omega arith))) (omega (arith, length-append t u)) b

  pub break_back : n < length t → Break (t ++ u) n → Break t n
  break_back l b = break_like (t ++ u) t n (take-append-le n t u (omega arith)) l b

-- no break stands in 2D 2D 20, nor in a beginning of it
pub signature_inside : (n : ℕ) → n < 3 → ends_in_space (take n signature) ≡ false
signature_inside zero l = refl
signature_inside (suc zero) l = refl
signature_inside (suc (suc zero)) l = refl
signature_inside (suc (suc (suc n))) l = absurd (omega arith)

pub signature_unbroken : (n : ℕ) → Unbroken (take n signature)
signature_unbroken n j b =
    let l : j < min n 3 = omega (arith, b.before_text, length-take n signature) in
    let front : take j (take n signature) ≡ take j signature = take-take j n signature (omega arith) in
    both_ways (ends_in_space (take j (take n signature))) (ap ends_in_space front ∙ signature_inside j (omega arith)) b.behind_space

-- a break of what is left behind a break is one of the whole
pub break_drop : (t : Text) (i j : ℕ) → Break t i → Break (drop i t) j → Break t (i + j)
break_drop t i j a b =
    let p = take j (drop i t) in
    let left : i + j < length t = omega (arith, length-drop i t, a.before_text, b.before_text) in
    record {
      behind_space =
          ap ends_in_space (take-add i j t) ∙ ends_append (take i t) p (some_from_ends p b.behind_space) ∙ b.behind_space;
      before_text = left;
      unsigned = λ q.
          let three : i + j ≡ 3 = sym (length-take-le (i + j) t (omega arith)) ∙ ap length q in
          let front : take i t ≡ take i signature = sym (take-take i (i + j) t (omega arith)) ∙ ap (take i) q in
          let inside = signature_inside i (omega (arith, break_some (drop i t) j b)) in
          both_ways (ends_in_space (take i t)) (ap ends_in_space front ∙ inside) a.behind_space;
    }
