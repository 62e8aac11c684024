-- What a byte does to the text that is held, by what the line and its spaces tell.
use Rattle.std.proofs.Common.{◌≡◌, ℕ, zero, suc, ◌≤◌, Bool, true, false, not, eqb, ◌⊎◌, List, [], ◌∷◌, ◌++◌, length, drop, replicate, is_some, Some, None, Option, sym, refl, ap, ◌∙◌, inl, inr, append_assoc, append-nil}
use lib.Seq.{drop-append_seam}
use Rattle.std.specs.List.{flat_map}
use Rattle.folding.specs.Text.{Text, space, signature, ends_in_space, trimmed, settled, settled_behind}
use Rattle.folding.specs.WireLine.{width}
use Rattle.folding.specs.Folded.{Folded, one_line}
use Rattle.folding.specs.Folding.{folding, from_start}
use Rattle.folding.specs.Relation.{LastLine}
use Rattle.folding.specs.Held.{Held, KnownBreak, Valid, held_with, full}
use Rattle.folding.proofs.Spaces.{ends_behind, settled_cases, trimmed_behind, trimmed_same, settled_same, trimmed_space}
use Rattle.folding.proofs.Exceptions.{unbroken_last, no_exception}
use Rattle.folding.proofs.FromStart.{from_start_last, from_start_none}
use Rattle.folding.proofs.Sound.{sound_foldings}
use Rattle.folding.proofs.HeldFull.{full_none}
use Rattle.folding.proofs.Tracking.{sent}
use Rattle.composer.specs.Machine.{flowed_of, finished_lines, behind_lines}
use Rattle.composer.specs.State.{held_text}

pub text_with : (h : Held) (b : ℕ) → held_text h ++ b ∷ [] ≡ held_with h b
text_with h b = append_assoc h.line (replicate h.spaces space) (b ∷ [])

pub joined_append : (ps : List Text) (p : Text) → flat_map (λ p. p) (ps ++ p ∷ []) ≡ flat_map (λ p. p) ps ++ p
joined_append [] p = append-nil p
joined_append (q ∷ ps) p = ap (λ (t : Text). q ++ t) (joined_append ps p) ∙ sym (append_assoc q (flat_map (λ p. p) ps) p)

-- behind all lines but the last stands the last
pub last_behind : (d w : ℕ) (t : Text) (f : Folded) → folding d w t ≡ Some f → (u : Text) → behind_lines f.flowed (t ++ u) ≡ f.last ++ u
last_behind d w t f e u =
    let front = flat_map (λ (p : Text). p) f.flowed in
    let whole : t ≡ front ++ f.last = sym (sound_foldings d w t f e).joins ∙ joined_append f.flowed f.last in
    ap (λ (x : Text). drop (length front) (x ++ u)) whole
    ∙ ap (drop (length front)) (append_assoc front f.last u)
    ∙ drop-append_seam front (f.last ++ u)

module _ (d w : ℕ) (h : Held) (small : d ≤ 100) (valid : Valid d w h) where
  module _ (short : width d h.line ≤ 998) where
    -- the line is a line by itself
    pub alone : folding d w h.line ≡ Some (one_line h.line)
    alone = no_exception d w small h.line ∙ from_start_last d w h.line (go h.last_break valid.known)
      where
        go : (o : Option ℕ) → KnownBreak d w h.line o → LastLine d w h.line
        go None u = unbroken_last d w h.line u short
        go (Some n) k = LastLine.fitting k.1

    -- a space finishes no line
    pub space_folds : folding d w (trimmed (held_text h ++ space ∷ [])) ≡ Some (one_line h.line)
    space_folds =
        ap (folding d w) (trimmed_space (held_text h) ∙ trimmed_behind h.line h.spaces valid.no_space) ∙ alone

    -- and is never refused
    pub space_foldable : (n : ℕ) → is_some (folding d w (settled_behind n (held_text h ++ space ∷ []))) ≡ true
    space_foldable zero = go (settled_cases (held_text h ++ space ∷ []))
      where
        t : Text
        t = held_text h ++ space ∷ []

        go : (t ≡ signature) ⊎ (settled t ≡ trimmed t) → is_some (folding d w (settled t)) ≡ true
        go (inl e) = ap (λ (x : Text). is_some (folding d w (settled x))) e
        go (inr e) = ap (λ (x : Text). is_some (folding d w x)) e ∙ ap is_some space_folds
    space_foldable (suc n) = ap is_some space_folds

  module _ (b : ℕ) (plain : eqb b space ≡ false) where
    ends_plain : ends_in_space (held_text h ++ b ∷ []) ≡ false
    ends_plain = ends_behind (held_text h) b [] ∙ plain

    -- any other byte: all that is held is folded again, with the byte behind it
    pub plain_folds : folding d w (trimmed (held_text h ++ b ∷ [])) ≡ from_start d w (held_with h b)
    plain_folds =
        ap (folding d w) (trimmed_same (held_text h ++ b ∷ []) ends_plain ∙ text_with h b) ∙ no_exception d w small (held_with h b)

    settles_plain : (n : ℕ) → settled_behind n (held_text h ++ b ∷ []) ≡ held_with h b
    settles_plain zero = settled_same (held_text h ++ b ∷ []) ends_plain ∙ text_with h b
    settles_plain (suc n) = trimmed_same (held_text h ++ b ∷ []) ends_plain ∙ text_with h b

    -- it is refused where the line is full
    pub plain_foldable : w ≤ 998 → (n : ℕ) → is_some (folding d w (settled_behind n (held_text h ++ b ∷ []))) ≡ not (full d h)
    plain_foldable narrow n =
        ap (λ (t : Text). is_some (folding d w t)) (settles_plain n) ∙ ap is_some (no_exception d w small (held_with h b)) ∙ go (full d h) refl
      where
        go : (x : Bool) → full d h ≡ x → is_some (from_start d w (held_with h b)) ≡ not x
        go true e = ap is_some (from_start_none d w (held_with h b) (full_none d w h b small narrow valid e))
        go false e = ap is_some (sent d w b small narrow plain h valid e).folds

    -- what is left behind the finished lines
    pub plain_left : (f : Folded) → from_start d w (held_with h b) ≡ Some f → behind_lines (finished_lines d w (held_text h ++ b ∷ [])) (held_text h ++ b ∷ []) ≡ f.last
    plain_left f e =
        let t = held_text h ++ b ∷ [] in
        let folds : folding d w t ≡ Some f = ap (folding d w) (text_with h b) ∙ no_exception d w small (held_with h b) ∙ e in
        ap (λ (o : Option Folded). behind_lines (flowed_of o) t) (plain_folds ∙ e)
        ∙ ap (behind_lines f.flowed) (sym (append-nil t))
        ∙ last_behind d w t f folds []
        ∙ append-nil f.last
