-- At depths up to 100 the steps make one line of 2D 2D 20 and of the empty text, as the rules demand.
use Rattle.std.proofs.Common.{◌≡◌, ℕ, ◌<◌, ◌≤◌, take, Some, sym, ◌∙◌, subst, ⊎_elim, arith, length-take}
use Rattle.std.proofs.lemmas.Bool.{cases_lt}
use Rattle.folding.specs.Text.{Text, signature}
use Rattle.folding.specs.WireLine.{width}
use Rattle.folding.specs.Breaks.{Unbroken}
use Rattle.folding.specs.Folded.{one_line}
use Rattle.folding.specs.Relation.{LastLine}
use Rattle.folding.specs.Folding.{from_start, folding}
use Rattle.folding.specs.Laws.{GivenBySteps}
use Rattle.folding.proofs.Widths.{width_le}
use Rattle.folding.proofs.Breaks.{signature_unbroken}
use Rattle.folding.proofs.FromStart.{from_start_last}
use Rattle.folding.proofs.Relation.{from_steps, to_steps, Shape, signed, empty, plain, shape}

pub unbroken_last : (d w : ℕ) (t : Text) → Unbroken t → width d t ≤ 998 → LastLine d w t
unbroken_last d w t u l = ⊎_elim
    (λ (o : w < width d t). LastLine.unbroken o u l)
    (λ (o : width d t ≤ w). LastLine.fitting o)
    (cases_lt w (width d t))

module _ (d w : ℕ) (small : d ≤ 100) where
  -- the beginnings of 2D 2D 20
  front_line : (n : ℕ) → from_start d w (take n signature) ≡ Some (one_line (take n signature))
  front_line n =
      let t = take n signature in
      let short : width d t ≤ 998 = omega (arith, width_le d t, length-take n signature) in
      from_start_last d w t (unbroken_last d w t (signature_unbroken n) short)

  pub no_exception : (t : Text) → folding d w t ≡ from_start d w t
  no_exception t = go (shape d w t)
    where
      go : Shape d w t → folding d w t ≡ from_start d w t
      go (signed e) = subst (λ (s : Text). folding d w s ≡ from_start d w s) (sym e) (sym (front_line 3))
      go (empty e) = subst (λ (s : Text). folding d w s ≡ from_start d w s) (sym e) (sym (front_line 0))
      go (plain _ _ e) = e

  pub front_folds : (n : ℕ) → folding d w (take n signature) ≡ Some (one_line (take n signature))
  front_folds n = no_exception (take n signature) ∙ front_line n

pub given_by_steps : GivenBySteps
given_by_steps d w t f small = let e = no_exception d w small t in (λ h. to_steps d w t f (sym e ∙ h), λ h. e ∙ from_steps h)
