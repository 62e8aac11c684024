-- Where a line is full, nothing but a space can follow.
use Rattle.std.proofs.Common.{◌≡◌, ℕ, ◌+◌, ◌<◌, ◌≤◌, true, false, not, ◌&&◌, leb, length, is_some, Some, None, Decides, Option, refl, arith}
use Rattle.std.proofs.lemmas.Bool.{both_ways, leb-true, le-leb}
use Rattle.folding.specs.WireLine.{lead, width}
use Rattle.folding.specs.Breaks.{Unbroken, NoneFitting}
use Rattle.folding.specs.Held.{Held, KnownBreak, Valid, held_with, full}
use Rattle.folding.proofs.Widths.{width_le}
use Rattle.folding.proofs.NextLine.{NoLine}
use Rattle.folding.proofs.HeldBreaks.{each_break, width_held, width_held_take, width_line}

pub full_decides : (d w : ℕ) (h : Held) → Valid d w h → Decides (full d h) (Unbroken h.line × (998 ≤ width d h.line))
full_decides d w h valid = go h.last_break valid.known
  where
    go : (o : Option ℕ) → KnownBreak d w h.line o →
        Decides (not (is_some o) && leb 998 (width d h.line)) (Unbroken h.line × (998 ≤ width d h.line))
    go None u = (λ e. (u, leb-true 998 (width d h.line) e), λ p. le-leb 998 (width d h.line) p.1)
    go (Some i) k = (λ e. absurd (both_ways false refl e), λ p. absurd (p.0 i k.0.here))

pub full_none : (d w : ℕ) (h : Held) (b : ℕ) → d ≤ 100 → w ≤ 998 → Valid d w h → full d h ≡ true → NoLine d w (held_with h b)
full_none d w h b small narrow valid e =
    record { over = omega (arith, wide); none_fits = none w narrow; none_short = none 998 (omega arith); rest = wide }
  where
    u : Unbroken h.line
    u = ((full_decides d w h valid).0 e).0

    line : 998 ≤ lead d (held_with h b) + length h.line
    line =
        let long = ((full_decides d w h valid).0 e).1 in
        omega (arith, width_line h b d (omega (arith, width_le d h.line)))

    wide : 998 < width d (held_with h b)
    wide = omega (arith, line, width_held h b d)

    none : (v : ℕ) → v ≤ 998 → NoneFitting d v (held_with h b)
    none v k j c = each_break h b valid.no_space j c
        (λ q. absurd (u j q))
        (λ a. omega (arith, line, a.past, width_held_take h b d j (omega (arith, a.past)) a.within))
