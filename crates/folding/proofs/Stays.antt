-- All lines but the last stay as the text goes on, and what is held of a text folds on as the text does.
use Rattle.std.proofs.Common.{◌≡◌, ℕ, ◌≤◌, false, ◌⊎◌, List, [], ◌∷◌, ◌++◌, length, replicate, Some, None, Option, sym, refl, ap, ◌∙◌, inl, inr, append_assoc}
use Rattle.folding.specs.Text.{Text, space, dashes, signature, ends_in_space, trimmed, settled, settled_behind}
use Rattle.folding.specs.Folded.{Folded, one_line, after_lines}
use Rattle.folding.specs.Folding.{folding}
use Rattle.folding.specs.Laws.{Keeps, LinesStay, Sound, HeldFoldsOn}
use Rattle.folding.proofs.Constructors.{same_some, some_none, cons_nil}
use Rattle.folding.proofs.Spaces.{settled_cases, trimmed_ends, trimmed_append, trimmed_grows}
use Rattle.folding.proofs.FromStart.{fold_on, from_start_append, after_none}
use Rattle.folding.proofs.Exceptions.{no_exception, front_folds}
use Rattle.folding.proofs.Sound.{sound_foldings, all_in_last}

folding_on : (d w : ℕ) (t u : Text) → d ≤ 100 → folding d w (t ++ u) ≡ fold_on d w (folding d w t) u
folding_on d w t u small =
    no_exception d w small (t ++ u) ∙ from_start_append d w t u
    ∙ ap (λ (o : Option Folded). fold_on d w o u) (sym (no_exception d w small t))

-- the folding of a text goes on from its last line
pub folding_append : (d w : ℕ) (t u : Text) (f : Folded) → d ≤ 100 → folding d w t ≡ Some f →
    folding d w (t ++ u) ≡ after_lines f.flowed (folding d w (f.last ++ u))
folding_append d w t u f small e =
    folding_on d w t u small ∙ ap (λ (o : Option Folded). fold_on d w o u) e
    ∙ ap (after_lines f.flowed) (sym (no_exception d w small (f.last ++ u)))

-- where a text has no folding, no longer one has
pub folding_none : (d w : ℕ) (t u : Text) → d ≤ 100 → folding d w t ≡ None → folding d w (t ++ u) ≡ None
folding_none d w t u small e = folding_on d w t u small ∙ ap (λ (o : Option Folded). fold_on d w o u) e

pub lines_stay : LinesStay
lines_stay d w t u g small e = go (folding d w (trimmed t)) refl
  where
    v : Text
    v = (trimmed_grows t u).0

    longer : folding d w (trimmed t ++ v) ≡ Some g
    longer = ap (folding d w) (sym (trimmed_grows t u).1) ∙ e

    go : (o : Option Folded) → folding d w (trimmed t) ≡ o → Keeps d w t g
    go None i = absurd (some_none (sym longer ∙ folding_none d w (trimmed t) v small i))
    go (Some f) i = on (folding d w (f.last ++ v)) (sym (folding_append d w (trimmed t) v f small i) ∙ longer)
      where
        on : (o : Option Folded) → after_lines f.flowed o ≡ Some g → Keeps d w t g
        on None q = absurd (some_none (sym q))
        on (Some h) q =
            record { shorter = f; folds = i; more = h.flowed; begins = ap (λ (x : Folded). x.flowed) (sym (same_some q)) }

-- no line of 2D 2D 20 is sent before its end
pub signed_unsent : (d w : ℕ) (t u : Text) (f : Folded) → d ≤ 100 → folding d w (trimmed t) ≡ Some f → t ++ u ≡ signature →
    f.flowed ≡ []
signed_unsent d w t u f small e q =
    let whole = ap (λ (x : Text). folding d w (trimmed x)) q ∙ front_folds d w small 2 in
    let k = lines_stay d w t u (one_line dashes) small whole in
    ap (λ (x : Folded). x.flowed) (same_some (sym e ∙ k.folds)) ∙ front k.shorter.flowed k.more k.begins
  where
    front : (ps qs : List Text) → [] ≡ ps ++ qs → ps ≡ []
    front [] qs i = refl
    front (p ∷ ps) qs i = absurd (cons_nil (sym i))

pub held_folds_on : HeldFoldsOn
held_folds_on d w t n f small e h = record { so_far = so_far; at_end = λ u. at_end u f.flowed refl (settled_cases (t ++ u)) }
  where
    spaces : Text
    spaces = replicate n space

    sound : Sound d w (trimmed t) f
    sound = sound_foldings d w (trimmed t) f h

    so_far : (u : Text) → folding d w (trimmed (t ++ u)) ≡ after_lines f.flowed (folding d w (trimmed ((f.last ++ spaces) ++ u)))
    so_far u =
        ap (λ (x : Text). folding d w (trimmed (x ++ u))) e ∙ ap (folding d w) (on (trimmed t) (trimmed_ends t))
        ∙ folding_append d w (trimmed t) (trimmed (spaces ++ u)) f small h
        ∙ ap (λ (x : Text). after_lines f.flowed (folding d w x)) (sym (on f.last (sound.last ∙ trimmed_ends t)))
      where
        on : (x : Text) → ends_in_space x ≡ false → trimmed ((x ++ spaces) ++ u) ≡ x ++ trimmed (spaces ++ u)
        on x q = ap trimmed (append_assoc x spaces u) ∙ trimmed_append x (spaces ++ u) q

    -- where no line was sent, all of the text is held
    all_held : f.flowed ≡ [] → f.last ++ spaces ≡ t
    all_held i = ap (λ (x : Text). x ++ spaces) (all_in_last d w (trimmed t) f h i) ∙ sym e

    at_end : (u : Text) (ps : List Text) → f.flowed ≡ ps → (t ++ u ≡ signature) ⊎ (settled (t ++ u) ≡ trimmed (t ++ u)) →
        folding d w (settled (t ++ u)) ≡ after_lines ps (folding d w (settled_behind (length ps) ((f.last ++ spaces) ++ u)))
    at_end u [] i o =
        ap (λ (x : Text). folding d w (settled (x ++ u))) (sym (all_held i))
        ∙ sym (after_none (folding d w (settled ((f.last ++ spaces) ++ u))))
    at_end u (p ∷ ps) i (inl q) = absurd (cons_nil (sym i ∙ signed_unsent d w t u f small h q))
    at_end u (p ∷ ps) i (inr q) =
        ap (folding d w) q ∙ so_far u ∙ ap (λ (x : List Text). after_lines x (folding d w (trimmed ((f.last ++ spaces) ++ u)))) i
