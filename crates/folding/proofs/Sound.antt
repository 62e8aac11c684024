-- The lines of a folding are as they should be.
use Rattle.std.proofs.Common.{◌≡◌, ℕ, ◌<◌, ◌≤◌, true, List, [], ◌∷◌, ◌++◌, take, Some, sym, refl, ap, ◌∙◌, inl, inr, append-nil, arith, take-append-drop, take-take}
use Rattle.std.specs.List.{flat_map, AllByRecursion}
use Rattle.std.proofs.ByRecursion.{All-append, All-weaker}
use Rattle.folding.specs.Text.{Text, signature, ends_in_space, settled}
use Rattle.folding.specs.WireLine.{width}
use Rattle.folding.specs.Breaks.{Break, Unbroken, FirstBreak}
use Rattle.folding.specs.Folded.{Folded, pieces}
use Rattle.folding.specs.Relation.{LastLine, FlowedLine, Steps, Folds}
use Rattle.folding.specs.Folding.{folding}
use Rattle.folding.specs.Laws.{Flowed, FitsOrUnbroken, Sound, SoundFoldings, ShortLines, SignaturesAlone}
use Rattle.folding.proofs.Constructors.{same_some}
use Rattle.folding.proofs.Spaces.{some_from_ends, ends_drop, settled_ends}
use Rattle.folding.proofs.Breaks.{break_length, break_like, signature_unbroken}
use Rattle.folding.proofs.NextLine.{flowed_break}
use Rattle.folding.proofs.Relation.{given_by_rules}
use Rattle.folding.proofs.Exceptions.{given_by_steps}

break_flowed : (t : Text) (n : ℕ) → Break t n → Flowed (take n t)
break_flowed t n b = record { ends = b.behind_space; some = some_from_ends (take n t) b.behind_space; unsigned = b.unsigned }

-- no break stands in a piece that ends at the first
first_unbroken : (t : Text) (n : ℕ) → FirstBreak t n → Unbroken (take n t)
first_unbroken t n h j b =
    let l = b.before_text in
    let below : j < n = omega (arith, break_length t n h.here) in
    h.none_before j below (break_like (take n t) t j (take-take j n t (omega arith)) (omega (arith, h.here.before_text)) b)

flowed_widths : (d w : ℕ) (t : Text) (n : ℕ) → FlowedLine d w t n → FitsOrUnbroken d w (take n t)
flowed_widths d w t n (FlowedLine.longest o h) = inl h.fits
flowed_widths d w t n (FlowedLine.shortest o h f s) = inr (first_unbroken t n f)

last_widths : (d w : ℕ) (t : Text) → LastLine d w t → FitsOrUnbroken d w t
last_widths d w t (LastLine.fitting l) = inl l
last_widths d w t (LastLine.unbroken o u l) = inr u

steps_sound : {d w : ℕ} {t : Text} {f : Folded} → Steps d w t f → Sound d w t f
steps_sound {d} {w} (Steps.last {t = t} h) =
    record { joins = append-nil t; flowed = tt; last = refl; widths = (last_widths d w t h, tt) }
steps_sound {d} {w} (Steps.line {t = t} {n = n} h r) =
    let s = steps_sound r in
    let b = flowed_break d w t h in
    record {
      joins = ap (λ (u : Text). take n t ++ u) s.joins ∙ take-append-drop n t;
      flowed = (break_flowed t n b, s.flowed);
      last = s.last ∙ ends_drop n t b.before_text;
      widths = (flowed_widths d w t n h, s.widths);
    }

folds_sound : {d w : ℕ} {t : Text} {f : Folded} → Folds d w t f → Sound d w t f
folds_sound Folds.signature_line = record { joins = refl; flowed = tt; last = refl; widths = (inr (signature_unbroken 3), tt) }
folds_sound Folds.empty_line = record { joins = refl; flowed = tt; last = refl; widths = (inr (signature_unbroken 0), tt) }
folds_sound (Folds.steps _ _ h) = steps_sound h

pub sound_foldings : SoundFoldings
sound_foldings d w t f e = folds_sound (((given_by_rules d w t).some f).0 e)

-- a folding of one line has all of the text in it
pub all_in_last : (d w : ℕ) (t : Text) (f : Folded) → folding d w t ≡ Some f → f.flowed ≡ [] → f.last ≡ t
all_in_last d w t f e i =
    sym (append-nil f.last) ∙ ap (λ (ps : List Text). flat_map (λ p. p) (ps ++ f.last ∷ [])) (sym i)
    ∙ (sound_foldings d w t f e).joins

flowed_short : (d w : ℕ) (t : Text) (n : ℕ) → w ≤ 998 → FlowedLine d w t n → width d (take n t) ≤ 998
flowed_short d w t n l (FlowedLine.longest o h) = omega (arith, h.fits)
flowed_short d w t n l (FlowedLine.shortest o h f s) = s

pub last_short : (d w : ℕ) (t : Text) → w ≤ 998 → LastLine d w t → width d t ≤ 998
last_short d w t l (LastLine.fitting k) = omega arith
last_short d w t l (LastLine.unbroken o u s) = s

steps_short : {d w : ℕ} {t : Text} {f : Folded} → w ≤ 998 → Steps d w t f → AllByRecursion (λ p. width d p ≤ 998) (pieces f)
steps_short {d} {w} l (Steps.last {t = t} h) = (last_short d w t l h, tt)
steps_short {d} {w} l (Steps.line {t = t} {n = n} h r) = (flowed_short d w t n l h, steps_short l r)

pub short_lines : ShortLines
short_lines d w t f small narrow e = steps_short narrow ((given_by_steps d w t f small).0 e)

pub signatures_alone : SignaturesAlone
signatures_alone d w t f e =
    let s = sound_foldings d w (settled t) f e in
    let ends : ends_in_space f.last ≡ true → settled t ≡ signature = λ h. settled_ends t (sym s.last ∙ h) in
    record {
      ends = ends;
      signed = All-append (λ p. p ≡ signature → settled t ≡ signature) f.flowed (f.last ∷ [])
          (All-weaker Flowed (λ p. p ≡ signature → settled t ≡ signature) (λ p h q. absurd (h.unsigned q)) f.flowed s.flowed)
          (λ q. ends (ap ends_in_space q), tt);
      alone = λ q. same_some (sym e ∙ ap (folding d w) q);
    }
