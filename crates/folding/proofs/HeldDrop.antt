-- What is held after a piece is sent.
use Rattle.std.proofs.Common.{◌≡◌, ℕ, ◌+◌, ◌-◌, ◌<◌, ◌≤◌, true, false, ◌||◌, eqb, leb, [], ◌∷◌, ◌++◌, length, take, drop, replicate, Some, sym, refl, ap, ◌∙◌, ⊎_elim, arith, length-drop}
use lib.ListN.{length-replicate}
use lib.Seq.{drop-append-le, drop-append-add}
use Rattle.std.proofs.lemmas.List.{drop_all, drop-replicate}
use Rattle.std.proofs.lemmas.Bool.{both_ways, or_left, or_right, cases_lt}
use Rattle.folding.specs.Text.{Text, space, ends_in_space}
use Rattle.folding.specs.WireLine.{quote_mark, lead_by, lead, width}
use Rattle.folding.specs.Held.{Held, KnownBreak, Valid, held_with}
use Rattle.folding.specs.Incremental.{held_drop}
use Rattle.folding.proofs.Spaces.{ends_drop}
use Rattle.folding.proofs.Widths.{line_widths, width_le, lead_ge}
use Rattle.folding.proofs.Breaks.{break_some, break_drop}
use Rattle.folding.proofs.HeldBreaks.{Among}

-- what is left of the text
pub held_rest : (h : Held) (b m : ℕ) → m ≤ length h.line + h.spaces → held_with (held_drop m h) b ≡ drop m (held_with h b)
held_rest h b m l = ⊎_elim inside behind (cases_lt m (length h.line))
  where
    n : ℕ
    n = length h.line

    i : ℕ
    i = m - length h.line

    spaces : Text
    spaces = replicate h.spaces space

    inside : m < length h.line → held_with (held_drop m h) b ≡ drop m (held_with h b)
    inside k =
        let all : h.spaces - (m - length h.line) ≡ h.spaces = omega arith in
        ap (λ (s : ℕ). drop m h.line ++ (replicate s space ++ b ∷ [])) all
        ∙ sym (drop-append-le m h.line (spaces ++ b ∷ []) (omega arith))

    behind : length h.line ≤ m → held_with (held_drop m h) b ≡ drop m (held_with h b)
    behind k =
        let at : length h.line + i ≡ m = omega arith in
        ap (λ (t : Text). t ++ (replicate (h.spaces - i) space ++ b ∷ [])) (drop_all m h.line k)
        ∙ ap (λ (t : Text). t ++ b ∷ []) (sym (drop-replicate i h.spaces space))
        ∙ sym (drop-append-le i spaces (b ∷ []) (omega (arith, length-replicate {A = ℕ} h.spaces space)))
        ∙ sym (drop-append-add h.line (spaces ++ b ∷ []) i)
        ∙ ap (λ (j : ℕ). drop j (held_with h b)) at

-- a piece that begins with a space is stuffed
lead_space : (d : ℕ) (t : Text) → ends_in_space (take 1 t) ≡ true → lead d t ≡ d + 1
lead_space d [] e = absurd (both_ways false refl e)
lead_space d (a ∷ t) e =
    let quoted_or_space = or_right (leb 1 d) (eqb a space) e in
    ap (λ x. lead_by x d) (or_left (leb 1 d || eqb a space) (eqb a quote_mark) quoted_or_space)

-- after a piece is sent
module _ (d w : ℕ) (h : Held) (m : ℕ) (valid : Valid d w h) where
  pub drop_among : Among h m → Valid d w (held_drop m h)
  drop_among a =
      let l = a.past in
      record {
        no_space = ap ends_in_space (drop_all m h.line (omega arith));
        known = λ j c. omega (arith, c.before_text, length-drop m h.line);
      }

  pub drop_break : KnownBreak d w h.line (Some m) → Valid d w (held_drop m h)
  drop_break k = record {
    no_space = ends_drop m h.line k.0.here.before_text ∙ valid.no_space;
    known = λ j c.
        let some = break_some (drop m h.line) j c in
        k.0.none_behind (m + j) (omega arith) (break_drop h.line m j k.0.here c);
  }

  pub room_among : d ≤ 100 → Among h m → width d (drop m h.line) < 998
  room_among small a = omega (arith, a.past, width_le d (drop m h.line), length-drop m h.line)

  pub room_break : w ≤ 998 → KnownBreak d w h.line (Some m) → width d (drop m h.line) < 998
  room_break narrow k =
      let c = k.0.here in
      let some = break_some h.line m c in
      let total = line_widths d h.line in
      let left = width_le d (drop m h.line) in
      let len = length-drop m h.line in
      ⊎_elim
      (λ (l : m < 2). omega (arith, c.before_text, k.1, lead_space d h.line (first (omega arith) c.behind_space)))
      (λ (l : 2 ≤ m). omega (arith, c.before_text, k.1, lead_ge d h.line))
      (cases_lt m 2)
    where
      first : m ≡ 1 → ends_in_space (take m h.line) ≡ true → ends_in_space (take 1 h.line) ≡ true
      first one e = rw one at e
