-- The folding as it is computed is the one that the rules give.
use Rattle.std.proofs.Common.{◌≡◌, ℕ, zero, suc, ◌<◌, Bool, true, false, [], ◌∷◌, length, take, drop, IfSome, Some, None, Option, sym, refl, ap, ◌∙◌, arith}
use Rattle.std.specs.Str.{bytes_eq}
use Rattle.std.proofs.lemmas.Option.{MatchOption-at_some}
use Rattle.std.proofs.lemmas.Bool.Decides.{not_from_Decides}
use Rattle.std.proofs.lemmas.Slice.Eq.{bytes_eq-Decides}
use Rattle.folding.specs.Text.{Text, signature}
use Rattle.folding.specs.Folded.{Folded, one_line, after_lines}
use Rattle.folding.specs.Relation.{Steps, Folds}
use Rattle.folding.specs.Folding.{Next, last_line, piece, no_line, next, from_start, folding}
use Rattle.folding.specs.Laws.{GivenByRules}
use Rattle.folding.proofs.Constructors.{same_some, some_none}
use Rattle.folding.proofs.NextLine.{IsNext, next_is, less_left}
use Rattle.folding.proofs.FromStart.{from_start_last, from_start_line, from_start_none}

-- the steps give what is computed
pub from_steps : {d w : ℕ} {t : Text} {f : Folded} → Steps d w t f → from_start d w t ≡ Some f
from_steps {d} {w} (Steps.last {t = t} h) = from_start_last d w t h
from_steps {d} {w} (Steps.line {t = t} {n = n} h r) = from_start_line d w t n h ∙ ap (after_lines (take n t ∷ [])) (from_steps r)

-- and what is computed, the steps give
steps_in : (k d w : ℕ) (t : Text) → length t < k → IfSome (from_start d w t) (Steps d w t)
steps_in zero d w t a = absurd (omega arith)
steps_in (suc k) d w t a = go (next d w t) (next_is d w t) (steps_in k d w)
  where
    go : (x : Next) → IsNext d w t x → ((s : Text) → length s < k → IfSome (from_start d w s) (Steps d w s)) →
        IfSome (from_start d w t) (Steps d w t)
    go last_line h r = rw (from_start_last d w t h) (Steps.last h)
    go no_line h r = rw (from_start_none d w t h) tt
    go (piece n) h r =
        let l = less_left d w t h in
        rw (from_start_line d w t n h) (more (from_start d w (drop n t)) (r (drop n t) (omega arith)))
      where
        more : (o : Option Folded) → IfSome o (Steps d w (drop n t)) →
            IfSome (after_lines (take n t ∷ []) o) (Steps d w t)
        more None q = tt
        more (Some f) q = Steps.line h q

pub to_steps : (d w : ℕ) (t : Text) (f : Folded) → from_start d w t ≡ Some f → Steps d w t f
to_steps d w t f e = MatchOption-at_some (Unit {0}) (Steps d w t) f e (steps_in (suc (length t)) d w t (omega arith))

-- the two texts that are one line each, and any other
pub data Shape (d w : ℕ) (t : Text) : Type 0 where
  signed : t ≡ signature → Shape d w t
  empty : t ≡ [] → Shape d w t
  plain : (t ≡ signature → ⊥) → (t ≡ [] → ⊥) → folding d w t ≡ from_start d w t → Shape d w t

pub shape : (d w : ℕ) (t : Text) → Shape d w t
shape d w t = go (bytes_eq t signature) refl (bytes_eq t []) refl
  where
    go : (x : Bool) → bytes_eq t signature ≡ x → (y : Bool) → bytes_eq t [] ≡ y → Shape d w t
    go true e y h = signed ((bytes_eq-Decides t signature).0 e)
    go false e true h = empty ((bytes_eq-Decides t []).0 h)
    go false e false h = plain
        (not_from_Decides (bytes_eq t signature) (bytes_eq-Decides t signature) e)
        (not_from_Decides (bytes_eq t []) (bytes_eq-Decides t []) h)
        (rw (e, h))

from_folds : {d w : ℕ} {t : Text} {f : Folded} → Folds d w t f → folding d w t ≡ Some f
from_folds Folds.signature_line = refl
from_folds Folds.empty_line = refl
from_folds {d} {w} (Folds.steps {t = t} {f = f} s e h) = go (shape d w t)
  where
    go : Shape d w t → folding d w t ≡ Some f
    go (signed q) = absurd (s q)
    go (empty q) = absurd (e q)
    go (plain _ _ q) = q ∙ from_steps h

to_folds : (d w : ℕ) (t : Text) (f : Folded) → folding d w t ≡ Some f → Folds d w t f
to_folds d w t f e = go (shape d w t)
  where
    go : Shape d w t → Folds d w t f
    go (signed q) = let i : one_line signature ≡ f = same_some (sym (ap (folding d w) q) ∙ e) in rw (q, ← i) Folds.signature_line
    go (empty q) = let i : one_line [] ≡ f = same_some (sym (ap (folding d w) q) ∙ e) in rw (q, ← i) Folds.empty_line
    go (plain s n q) = Folds.steps s n (to_steps d w t f (sym q ∙ e))

pub given_by_rules : GivenByRules
given_by_rules d w t = record {
  some = λ f. (to_folds d w t f, from_folds);
  none = (λ e f h. some_none (sym (from_folds h) ∙ e), λ h. none (folding d w t) refl h);
}
  where
    none : (o : Option Folded) → folding d w t ≡ o → ((f : Folded) → Folds d w t f → ⊥) → o ≡ None
    none None e h = refl
    none (Some f) e h = absurd (h f (to_folds d w t f e))
