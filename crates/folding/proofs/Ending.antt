-- The end of a paragraph completes the folding of its settled text.
use Rattle.std.proofs.Common.{◌≡◌, ℕ, zero, suc, ◌+◌, ◌<◌, Bool, true, false, cond, ◌&&◌, eqb, ◌⊎◌, List, [], ◌∷◌, ◌++◌, length, replicate, Some, Decides, Option, sym, refl, ap, ◌∙◌, inl, inr, append-nil, arith, length-append}
use lib.ListN.{length-replicate}
use Rattle.std.proofs.lemmas.Bool.{both_ways}
use Rattle.std.proofs.lemmas.Bool.Decides.{Decides-and, Decides-eqb, Decides-like, not_from_Decides}
use Rattle.std.proofs.lemmas.Slice.Eq.{bytes_eq-Decides}
use Rattle.folding.specs.Text.{Text, space, dashes, signature, ends_in_space, trimmed, settled}
use Rattle.folding.specs.Folded.{Folded}
use Rattle.folding.specs.Folding.{folding}
use Rattle.folding.specs.Held.{Held, is_dashes}
use Rattle.folding.specs.Incremental.{so_far, ending}
use Rattle.folding.specs.Tracking.{EndsSettle, EndsTrack}
use Rattle.folding.proofs.Constructors.{cons_nil}
use Rattle.folding.proofs.Spaces.{settled_cases, trimmed_behind}
use Rattle.folding.proofs.Sound.{all_in_last}
use Rattle.folding.proofs.Stays.{signed_unsent}
use Rattle.folding.proofs.HeldBreaks.{signed_dashes}

module _ (h : Held) (no_space : ends_in_space h.line ≡ false) where
  abbrev held : Text
  held = h.line ++ replicate h.spaces space

  -- 2D 2D and one space
  signed_decides : Decides (is_dashes h && eqb h.spaces 1) (held ≡ signature)
  signed_decides =
      let parts = Decides-and (is_dashes h) (eqb h.spaces 1) (bytes_eq-Decides h.line dashes) (Decides-eqb h.spaces 1) in
      Decides-like (is_dashes h && eqb h.spaces 1) to from parts
    where
      to : (h.line ≡ dashes) × (h.spaces ≡ 1) → held ≡ signature
      to (e, i) = ap (λ (n : ℕ). h.line ++ replicate n space) i ∙ ap (λ (t : Text). t ++ space ∷ []) e

      some : (n : ℕ) → h.line ++ replicate n space ≡ signature → 0 < n
      some zero q =
          let line = sym (append-nil h.line) ∙ q in
          absurd (both_ways (ends_in_space h.line) no_space (ap ends_in_space line))
      some (suc n) q = omega arith

      from : held ≡ signature → (h.line ≡ dashes) × (h.spaces ≡ 1)
      from q =
          let e = signed_dashes h.line h.spaces (some h.spaces q) q in
          let len : length h.line + h.spaces ≡ 3 = simp (length-append, length-replicate) at (ap length q) in
          (e, omega (arith, ap length e))

  alone : (x : Bool) → (is_dashes h && eqb h.spaces 1) ≡ x → (held ≡ signature) ⊎ (settled held ≡ trimmed held) →
      cond x signature h.line ≡ settled held
  alone true e o = ap settled (sym (signed_decides.0 e))
  alone false e (inl q) = absurd (not_from_Decides (is_dashes h && eqb h.spaces 1) signed_decides e q)
  alone false e (inr q) = sym (q ∙ trimmed_behind h.line h.spaces no_space)

pub ends_settle : EndsSettle
ends_settle zero h no_space =
    let settles = settled_cases (h.line ++ replicate h.spaces space) in
    alone h no_space (is_dashes h && eqb h.spaces 1) refl settles
ends_settle (suc n) h no_space = sym (trimmed_behind h.line h.spaces no_space)

pub ends_track : EndsTrack
ends_track d w t a small k = go a.sent refl (settled_cases t)
  where
    fold : List Text → Text → Option Folded
    fold ps p = Some (record { flowed = ps; last = p })

    -- where no line was sent, all of the text is held
    whole : a.sent ≡ [] → ending 0 a.held ≡ settled t
    whole i =
        ends_settle 0 a.held k.valid.no_space
        ∙ ap (λ (p : Text). settled (p ++ replicate a.held.spaces space)) (all_in_last d w (trimmed t) (so_far a) k.folds i)
        ∙ ap settled (sym k.text)

    go : (ps : List Text) → a.sent ≡ ps → (t ≡ signature) ⊎ (settled t ≡ trimmed t) →
        folding d w (settled t) ≡ fold ps (ending (length ps) a.held)
    go [] i (inl q) =
        ap (λ (s : Text). folding d w (settled s)) q ∙ ap (λ (s : Text). fold [] (settled s)) (sym q) ∙ ap (fold []) (sym (whole i))
    go [] i (inr q) =
        ap (folding d w) q ∙ k.folds ∙ ap (λ (x : List Text). fold x a.held.line) i
        ∙ ap (fold []) (all_in_last d w (trimmed t) (so_far a) k.folds i ∙ sym q ∙ sym (whole i))
    go (p ∷ ps) i (inl q) = absurd (cons_nil (sym i ∙ signed_unsent d w t [] (so_far a) small k.folds (append-nil t ∙ q)))
    go (p ∷ ps) i (inr q) = ap (folding d w) q ∙ k.folds ∙ ap (λ (x : List Text). fold x a.held.line) i
