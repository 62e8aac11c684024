-- The place where what is held is broken is that of the next line.
use Rattle.std.proofs.Common.{◌≡◌, ℕ, ◌+◌, ◌-◌, ◌<◌, ◌≤◌, min, Bool, true, false, cond, not, ◌&&◌, ltb, leb, ◌⊎◌, length, take, is_some, Some, None, Decides, Option, refl, ap, inl, inr, ⊎_elim, arith}
use Rattle.std.specs.Option.{option_or}
use Rattle.std.proofs.lemmas.Bool.{leb-true, leb-false, ltb-true, ltb-false, cases_lt}
use Rattle.std.proofs.lemmas.Bool.Decides.{not_from_Decides}
use Rattle.std.proofs.lemmas.Slice.Eq.{bytes_eq-Decides}
use Rattle.folding.specs.Text.{dashes}
use Rattle.folding.specs.WireLine.{lead, width}
use Rattle.folding.specs.Breaks.{Unbroken}
use Rattle.folding.specs.Relation.{LastLine, FlowedLine}
use Rattle.folding.specs.Held.{Held, KnownBreak, Valid, held_with, full, is_dashes}
use Rattle.folding.specs.Incremental.{break_among, first_among, held_piece}
use Rattle.folding.proofs.Widths.{lead_le, width_front}
use Rattle.folding.proofs.HeldBreaks.{Among, among_decides, among_further, held_length, break_line, break_at, each_break, take_line, width_held, width_held_take, width_line}

-- the held text with a byte behind it is the last line, or is broken among the spaces or at the line's last break
abbrev pub BrokenAt : ℕ → ℕ → Held → ℕ → Option ℕ → Type 0
BrokenAt d w h b None = LastLine d w (held_with h b)
BrokenAt d w h b (Some m) = FlowedLine d w (held_with h b) m × (Among h m ⊎ (h.last_break ≡ Some m))

module _ (d w : ℕ) (h : Held) (b : ℕ) (small : d ≤ 100) (valid : Valid d w h) where
  abbrev n : ℕ
  n = length h.line

  abbrev k : ℕ
  k = lead d (held_with h b)

  -- the furthest place among the spaces that fits
  abbrev r : ℕ
  r = min (length h.line + h.spaces) (w - lead d (held_with h b))

  -- where it takes no break, no place among them does
  none_among : (Among h r → ⊥) → (j : ℕ) → Among h j → w < width d (take j (held_with h b))
  none_among never j a = ⊎_elim
      (λ (l : w < k + j). omega (arith, width_held_take h b d j (omega (arith, a.past)) a.within))
      (λ (l : k + j ≤ w). let m = a.within in absurd (never (among_further h j r a (omega arith) (omega arith))))
      (cases_lt w (k + j))

  at_furthest : w < width d (held_with h b) → Among h r → FlowedLine d w (held_with h b) r
  at_furthest over a =
      let l = a.past in
      FlowedLine.longest over (record {
        here = break_at h b r a;
        fits = omega (arith, width_held_take h b d r (omega arith) a.within);
        wider_behind = λ j m c.
            let within : j ≤ n + h.spaces = omega (arith, c.before_text, held_length h b) in
            omega (arith, width_held_take h b d j (omega arith) within);
      })

  module _ (over : w < width d (held_with h b)) (never : Among h r → ⊥) where
    at_last_break : (i : ℕ) → KnownBreak d w h.line (Some i) → FlowedLine d w (held_with h b) i
    at_last_break i (here, fits) =
        let l = here.here.before_text in
        FlowedLine.longest over (record {
          here = break_line h b i here.here;
          fits = omega (arith, ap (width d) (take_line h b i (omega arith)), width_front d i h.line);
          wider_behind = λ j a c. each_break h b valid.no_space j c (λ q. absurd (here.none_behind j a q)) (none_among never j);
        })

    -- where no break stands in the line, the line is broken at the first place among the spaces, or not at all
    module _ (u : Unbroken h.line) where
      at_first : (m : ℕ) → Among h m → ((j : ℕ) → j < m → Among h j → ⊥) → k + m ≤ 998 → BrokenAt d w h b (Some m)
      at_first m a first short = (
        FlowedLine.shortest over (λ j c. each_break h b valid.no_space j c (λ q. absurd (u j q)) (none_among never j)) (record {
          here = break_at h b m a;
          none_before = λ j l c. each_break h b valid.no_space j c (u j) (first j l);
        }) (omega (arith, width_held_take h b d m (omega (arith, a.past)) a.within)),
        inl a,
      )

      at_none : ((j : ℕ) → Among h j → ⊥) → k + (n + h.spaces + 1) ≤ 998 → BrokenAt d w h b None
      at_none none short =
          let unbroken : Unbroken (held_with h b) = λ j c. each_break h b valid.no_space j c (u j) (none j) in
          LastLine.unbroken over unbroken (omega (arith, width_held h b d))

      first_place : leb 998 (width d h.line) ≡ false → (x : Bool) → is_dashes h ≡ x →
          BrokenAt d w h b (first_among n h.spaces x)
      first_place room true e = two (ap length dashed) (ltb 1 h.spaces) refl
        where
          dashed : h.line ≡ dashes
          dashed = (bytes_eq-Decides h.line dashes).0 e

          two : n ≡ 2 → (y : Bool) → ltb 1 h.spaces ≡ y → BrokenAt d w h b (cond y (Some (n + 2)) None)
          two len true f =
              let more = ltb-true 1 h.spaces f in
              let here : Among h (n + 2) = record { past = omega arith; within = omega arith; unsigned = λ _ i. omega arith } in
              at_first (n + 2) here (λ j l a. a.unsigned dashed (omega (arith, a.past))) (omega (arith, lead_le d (held_with h b)))
          two len false f =
              let few = ltb-false 1 h.spaces f in
              at_none (λ j a. a.unsigned dashed (omega (arith, a.past, a.within))) (omega (arith, lead_le d (held_with h b)))
      first_place room false e = one short (ltb 0 h.spaces) refl
        where
          short : k + n + 1 ≤ 998
          short = ⊎_elim
              (λ (l : 0 < n). omega (arith, width_line h b d l, leb-false 998 (width d h.line) room))
              (λ (l : n ≤ 0). omega (arith, lead_le d (held_with h b)))
              (cases_lt 0 n)

          undashed : h.line ≡ dashes → ⊥
          undashed = not_from_Decides (is_dashes h) (bytes_eq-Decides h.line dashes) e

          one : k + n + 1 ≤ 998 → (y : Bool) → ltb 0 h.spaces ≡ y → BrokenAt d w h b (cond y (Some (n + 1)) None)
          one l true f =
              let some = ltb-true 0 h.spaces f in
              let here : Among h (n + 1) = record { past = omega arith; within = omega arith; unsigned = λ q _. undashed q } in
              at_first (n + 1) here (λ j i a. omega (arith, a.past)) (omega arith)
          one l false f =
              let none = ltb-false 0 h.spaces f in
              at_none (λ j a. omega (arith, a.past, a.within)) (omega arith)

  pub held_piece_is : full d h ≡ false → BrokenAt d w h b (held_piece d w h b)
  held_piece_is room = go (leb (k + (n + h.spaces + 1)) w) refl (break_among n (is_dashes h) r) refl
    where
      past : w < width d (held_with h b) → (Among h r → ⊥) → (o : Option ℕ) → h.last_break ≡ o → KnownBreak d w h.line o →
          (not (is_some o) && leb 998 (width d h.line)) ≡ false →
          BrokenAt d w h b (option_or o (first_among n h.spaces (is_dashes h)))
      past over never None e known q = first_place over never known q (is_dashes h) refl
      past over never (Some i) e known q = (at_last_break over never i known, inr e)

      decided : Decides (break_among n (is_dashes h) r) (Among h r)
      decided = among_decides h r (omega arith)

      over : leb (k + (n + h.spaces + 1)) w ≡ false → w < width d (held_with h b)
      over e = omega (arith, leb-false (k + (n + h.spaces + 1)) w e, width_held h b d)

      go : (x : Bool) → leb (k + (n + h.spaces + 1)) w ≡ x → (y : Bool) → break_among n (is_dashes h) r ≡ y →
          BrokenAt d w h b (cond x None (cond y (Some r) (option_or h.last_break (first_among n h.spaces (is_dashes h)))))
      go true e y f = LastLine.fitting (omega (arith, leb-true (k + (n + h.spaces + 1)) w e, width_held h b d))
      go false e true f = let a = decided.0 f in (at_furthest (over e) a, inl a)
      go false e false f =
          let never = not_from_Decides (break_among n (is_dashes h) r) decided f in
          past (over e) never h.last_break refl valid.known room
