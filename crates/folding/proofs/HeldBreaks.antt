-- The breaks and the widths of what is held with a byte behind it.
use Rattle.std.proofs.Common.{◌≡◌, ℕ, zero, suc, ◌+◌, ◌-◌, ◌<◌, ◌≤◌, false, not, ◌&&◌, eqb, ltb, ◌⊎◌, [], ◌∷◌, ◌++◌, length, take, replicate, Decides, sym, ap, ◌∙◌, inl, inr, ⊎_elim, append_assoc, append-nil, add-one, arith, length-append, length-take-le}
use lib.ListN.{length-replicate}
use lib.Seq.{take-append-le, take-length}
use Rattle.std.proofs.lemmas.List.{take-replicate, same_from_push, replicate_more}
use Rattle.std.proofs.lemmas.Bool.{both_ways, cases_lt}
use Rattle.std.proofs.lemmas.Bool.Decides.{Decides-and, Decides-not, Decides-ltb, Decides-eqb, Decides-like}
use Rattle.std.proofs.lemmas.Slice.Eq.{bytes_eq-Decides}
use Rattle.folding.specs.Text.{Text, space, dashes, signature, ends_in_space}
use Rattle.folding.specs.WireLine.{lead, width}
use Rattle.folding.specs.Breaks.{Break}
use Rattle.folding.specs.Held.{Held, held_with, is_dashes}
use Rattle.folding.specs.Incremental.{break_among}
use Rattle.folding.proofs.Spaces.{ends_spaces}
use Rattle.folding.proofs.Widths.{line_widths, width_take, take_on}
use Rattle.folding.proofs.Breaks.{break_on, break_back}

-- a place among the spaces behind the line, where a break may stand
pub record Among (h : Held) (r : ℕ) : Type 0 where
  pub past : length h.line < r
  pub within : r ≤ length h.line + h.spaces
  pub unsigned : h.line ≡ dashes → r ≡ 3 → ⊥

pub among_decides : (h : Held) (r : ℕ) → r ≤ length h.line + h.spaces →
    Decides (break_among (length h.line) (is_dashes h) r) (Among h r)
among_decides h r l =
    let signed = Decides-and (is_dashes h) (eqb r 3) (bytes_eq-Decides h.line dashes) (Decides-eqb r 3) in
    let unsigned = Decides-not (is_dashes h && eqb r 3) signed in
    let parts = Decides-and (ltb n r) (not (is_dashes h && eqb r 3)) (Decides-ltb n r) unsigned in
    Decides-like (break_among n (is_dashes h) r) to from parts
  where
    n : ℕ
    n = length h.line

    to : (n < r) × ((h.line ≡ dashes) × (r ≡ 3) → ⊥) → Among h r
    to p = record { past = p.0; within = l; unsigned = λ a b. p.1 (a, b) }

    from : Among h r → (n < r) × ((h.line ≡ dashes) × (r ≡ 3) → ⊥)
    from a = (a.past, λ q. a.unsigned q.0 q.1)

-- where a place among the spaces takes a break, so does each further one
pub among_further : (h : Held) (j i : ℕ) → Among h j → j ≤ i → i ≤ length h.line + h.spaces → Among h i
among_further h j i a l m =
    let p = a.past in
    record { past = omega arith; within = m; unsigned = λ e q. a.unsigned e (omega (arith, ap length e)) }

-- spaces behind a text make 2D 2D 20 only of 2D 2D
pub signed_dashes : (t : Text) (n : ℕ) → 0 < n → t ++ replicate n space ≡ signature → t ≡ dashes
signed_dashes t zero l e = absurd (omega arith)
signed_dashes t (suc n) l e = go n (same_from_push (t ++ replicate n space) dashes space space (push ∙ e)).0
  where
    push : (t ++ replicate n space) ++ space ∷ [] ≡ t ++ replicate (suc n) space
    push =
        append_assoc t (replicate n space) (space ∷ [])
        ∙ ap (λ (x : Text). t ++ x) (replicate_more n space ∙ ap (λ (i : ℕ). replicate i space) (add-one n))

    go : (n : ℕ) → t ++ replicate n space ≡ dashes → t ≡ dashes
    go zero q = sym (append-nil t) ∙ q
    go (suc n) q =
        let spaces = ends_spaces t (suc n) (omega arith) in
        absurd (both_ways (ends_in_space (t ++ replicate (suc n) space)) (ap ends_in_space q) spaces)

module _ (h : Held) (b : ℕ) where
  pub held_length : length (held_with h b) ≡ length h.line + h.spaces + 1
  held_length = simp (length-append, length-replicate) (omega arith)

  pub take_line : (j : ℕ) → j ≤ length h.line → take j (held_with h b) ≡ take j h.line
  take_line j l = take-append-le j h.line (replicate h.spaces space ++ b ∷ []) l

  pub take_among : (j : ℕ) → length h.line ≤ j → j ≤ length h.line + h.spaces →
      take j (held_with h b) ≡ h.line ++ replicate (j - length h.line) space
  take_among j l m =
      let i : ℕ = j - length h.line in
      let q : i ≤ h.spaces = omega arith in
      let spaces = replicate h.spaces space in
      let front = take-append-le i spaces (b ∷ []) (omega (arith, length-replicate {A = ℕ} h.spaces space)) in
      take_on j h.line (replicate h.spaces space ++ b ∷ []) l
      ∙ ap (λ (x : Text). h.line ++ x) (front ∙ take-replicate i h.spaces space q)

  pub break_line : (j : ℕ) → Break h.line j → Break (held_with h b) j
  break_line j k = break_on h.line (replicate h.spaces space ++ b ∷ []) j k

  pub break_at : (j : ℕ) → Among h j → Break (held_with h b) j
  break_at j a =
      let l = a.past in
      let e = take_among j (omega arith) a.within in
      record {
        behind_space = ap ends_in_space e ∙ ends_spaces h.line (j - length h.line) (omega arith);
        before_text = omega (arith, held_length, a.within);
        unsigned = λ q.
            let three : j ≡ 3 = sym (length-take-le j (held_with h b) (omega (arith, held_length, a.within))) ∙ ap length q in
            a.unsigned (signed_dashes h.line (j - length h.line) (omega arith) (sym e ∙ q)) three;
      }

  -- a break stands in the line or among the spaces
  held_break : ends_in_space h.line ≡ false → (j : ℕ) → Break (held_with h b) j → Break h.line j ⊎ Among h j
  held_break no_space j k = ⊎_elim
      (λ (l : j < length h.line). inl (break_back h.line (replicate h.spaces space ++ b ∷ []) j l k))
      (λ (l : length h.line ≤ j). inr (among l (omega (arith, held_length, k.before_text))))
      (cases_lt j (length h.line))
    where
      not_at_end : j ≡ length h.line → ⊥
      not_at_end i =
          let line = take_line j (omega arith) ∙ ap (λ (n : ℕ). take n h.line) i ∙ take-length h.line in
          both_ways (ends_in_space (take j (held_with h b))) (ap ends_in_space line ∙ no_space) k.behind_space

      among : length h.line ≤ j → j ≤ length h.line + h.spaces → Among h j
      among l m = record {
        past = let never = not_at_end in omega arith;
        within = m;
        unsigned = λ e i.
            let one : j - length h.line ≡ 1 = omega (arith, ap length e) in
            k.unsigned (take_among j l m ∙ ap (λ (n : ℕ). h.line ++ replicate n space) one ∙ ap (λ (t : Text). t ++ space ∷ []) e);
      }

  pub each_break : {P : Type 0} → ends_in_space h.line ≡ false → (j : ℕ) → Break (held_with h b) j → (Break h.line j → P) →
      (Among h j → P) → P
  each_break no_space j k in_line among = ⊎_elim in_line among (held_break no_space j k)

  pub width_held : (d : ℕ) → width d (held_with h b) ≡ lead d (held_with h b) + (length h.line + h.spaces + 1)
  width_held d = line_widths d (held_with h b) ∙ ap (λ (n : ℕ). lead d (held_with h b) + n) held_length

  pub width_held_take : (d j : ℕ) → 0 < j → j ≤ length h.line + h.spaces →
      width d (take j (held_with h b)) ≡ lead d (held_with h b) + j
  width_held_take d j l m = width_take d j (held_with h b) l (omega (arith, held_length))

  pub width_line : (d : ℕ) → 0 < length h.line → width d h.line ≡ lead d (held_with h b) + length h.line
  width_line d l =
      ap (width d) (sym (take_line (length h.line) (omega arith) ∙ take-length h.line))
      ∙ width_held_take d (length h.line) l (omega arith)
