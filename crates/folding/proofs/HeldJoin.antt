-- What is held after a byte other than a space has joined the line.
use Rattle.std.proofs.Common.{◌≡◌, ℕ, ◌+◌, ◌≤◌, Bool, true, false, cond, eqb, [], ◌∷◌, ◌++◌, length, replicate, Some, None, Decides, Option, sym, refl, ap, ◌∙◌, append_assoc, arith}
use Rattle.std.proofs.lemmas.Bool.Decides.{not_from_Decides}
use Rattle.folding.specs.Text.{space, ends_in_space}
use Rattle.folding.specs.WireLine.{width}
use Rattle.folding.specs.Breaks.{Break}
use Rattle.folding.specs.Relation.{LastLine}
use Rattle.folding.specs.Held.{Held, KnownBreak, Valid, held_with, is_dashes}
use Rattle.folding.specs.Incremental.{break_among, held_join}
use Rattle.folding.proofs.Spaces.{ends_behind}
use Rattle.folding.proofs.HeldBreaks.{Among, among_decides, among_further, held_length, break_line, break_at, each_break}

module _ (d w : ℕ) (h : Held) (b : ℕ) (valid : Valid d w h) (l : LastLine d w (held_with h b)) where
  abbrev end : ℕ
  end = length h.line + h.spaces

  -- a last line with a break in it fits
  fits_broken : (j : ℕ) → LastLine d w (held_with h b) → Break (held_with h b) j → width d (held_with h b) ≤ w
  fits_broken j (LastLine.fitting k) c = k
  fits_broken j (LastLine.unbroken o u s) c = absurd (u j c)

  known_behind : Among h end → KnownBreak d w (held_with h b) (Some end)
  known_behind a =
      let here = break_at h b end a in
      (record { here = here; none_behind = λ j m c. omega (arith, c.before_text, held_length h b) }, fits_broken end l here)

  none_among : (Among h end → ⊥) → (j : ℕ) → Among h j → ⊥
  none_among never j a = never (among_further h j end a a.within (omega arith))

  known_before : (Among h end → ⊥) → (o : Option ℕ) → KnownBreak d w h.line o → KnownBreak d w (held_with h b) o
  known_before never None u = λ j c. each_break h b valid.no_space j c (u j) (none_among never j)
  known_before never (Some i) (k, s) = (
    record {
      here = break_line h b i k.here;
      none_behind = λ j m c. each_break h b valid.no_space j c (k.none_behind j m) (none_among never j);
    },
    fits_broken i l (break_line h b i k.here),
  )

  pub join_valid : eqb b space ≡ false → Valid d w (held_join h b)
  join_valid plain = record {
    no_space =
        ap ends_in_space (sym (append_assoc h.line (replicate h.spaces space) (b ∷ [])))
        ∙ ends_behind (h.line ++ replicate h.spaces space) b [] ∙ plain;
    known = go (break_among (length h.line) (is_dashes h) end) refl;
  }
    where
      decided : Decides (break_among (length h.line) (is_dashes h) end) (Among h end)
      decided = among_decides h end (omega arith)

      go : (x : Bool) → break_among (length h.line) (is_dashes h) end ≡ x →
          KnownBreak d w (held_with h b) (cond x (Some end) h.last_break)
      go true e = known_behind (decided.0 e)
      go false e =
          let never = not_from_Decides (break_among (length h.line) (is_dashes h) end) decided e in
          known_before never h.last_break valid.known
