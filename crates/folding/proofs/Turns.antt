-- One turn of taking a byte other than a space: the line takes it, or a piece is sent.
use Rattle.std.proofs.Common.{◌≡◌, ℕ, ◌+◌, ◌<◌, ◌≤◌, false, eqb, [], ◌∷◌, length, take, drop, Some, None, Option, sym, ap, ◌∙◌, subst, ⊎_elim, arith, MatchOption}
use Rattle.std.proofs.lemmas.Option.{MatchOption-at_some, MatchOption-at_none}
use Rattle.std.proofs.lemmas.Bool.{lt-leb}
use Rattle.folding.specs.Text.{Text, space}
use Rattle.folding.specs.WireLine.{width}
use Rattle.folding.specs.Folded.{one_line, after_lines}
use Rattle.folding.specs.Relation.{LastLine, FlowedLine}
use Rattle.folding.specs.Folding.{from_start}
use Rattle.folding.specs.Held.{Held, KnownBreak, Valid, held_with, full}
use Rattle.folding.specs.Incremental.{held_piece, held_drop, held_join}
use Rattle.folding.proofs.Sound.{last_short}
use Rattle.folding.proofs.Widths.{line_widths}
use Rattle.folding.proofs.Breaks.{break_some}
use Rattle.folding.proofs.NextLine.{flowed_break, less_left}
use Rattle.folding.proofs.FromStart.{from_start_last, from_start_line}
use Rattle.folding.proofs.HeldBreaks.{Among, held_length}
use Rattle.folding.proofs.HeldPiece.{BrokenAt, held_piece_is}
use Rattle.folding.proofs.HeldDrop.{held_rest, drop_among, drop_break, room_among, room_break}
use Rattle.folding.proofs.HeldJoin.{join_valid}

-- the line takes all that is held, and the byte
pub record Joins (d w : ℕ) (h : Held) (b : ℕ) : Type 0 where
  pub folds : from_start d w (held_with h b) ≡ Some (one_line (held_with h b))
  pub short : length h.line + h.spaces + 1 ≤ 998
  pub valid : Valid d w (held_join h b)

-- a piece of m bytes is sent
pub record Sends (d w : ℕ) (h : Held) (b m : ℕ) : Type 0 where
  pub folds : from_start d w (held_with h b) ≡ after_lines (take m (held_with h b) ∷ []) (from_start d w (held_with (held_drop m h) b))
  pub some : 0 < m
  pub within : m ≤ length h.line + h.spaces
  pub less : length (held_with (held_drop m h) b) < length (held_with h b)
  pub valid : Valid d w (held_drop m h)
  pub room : full d (held_drop m h) ≡ false

module _ (d w : ℕ) (h : Held) (b : ℕ) (small : d ≤ 100) (narrow : w ≤ 998) (plain : eqb b space ≡ false)
    (valid : Valid d w h) (room : full d h ≡ false) where
  joins : LastLine d w (held_with h b) → Joins d w h b
  joins l = record {
    folds = from_start_last d w (held_with h b) l;
    short = omega (arith, held_length h b, line_widths d (held_with h b), last_short d w (held_with h b) narrow l);
    valid = join_valid d w h b valid l plain;
  }

  sends : (m : ℕ) → FlowedLine d w (held_with h b) m → Valid d w (held_drop m h) → width d (drop m h.line) < 998 → Sends d w h b m
  sends m l v r =
      let c = flowed_break d w (held_with h b) l in
      let within : m ≤ length h.line + h.spaces = omega (arith, c.before_text, held_length h b) in
      let rest = held_rest h b m within in
      record {
        folds =
            from_start_line d w (held_with h b) m l
            ∙ ap (λ (t : Text). after_lines (take m (held_with h b) ∷ []) (from_start d w t)) (sym rest);
        some = break_some (held_with h b) m c;
        within = within;
        less = omega (arith, less_left d w (held_with h b) l, ap length rest);
        valid = v;
        room = lt-leb 998 (width d (drop m h.line)) r;
      }

  pub turn : MatchOption (held_piece d w h b) (Joins d w h b) (Sends d w h b)
  turn = go (held_piece d w h b) (held_piece_is d w h b small valid room)
    where
      known : (m : ℕ) → h.last_break ≡ Some m → KnownBreak d w h.line (Some m)
      known m e = subst (KnownBreak d w h.line) e valid.known

      go : (o : Option ℕ) → BrokenAt d w h b o → MatchOption o (Joins d w h b) (Sends d w h b)
      go None l = joins l
      go (Some m) (l, o) = ⊎_elim
          (λ (a : Among h m). sends m l (drop_among d w h m valid a) (room_among d w h m valid small a))
          (λ (e : h.last_break ≡ Some m).
          let k = known m e in
          sends m l (drop_break d w h m valid k) (room_break d w h m valid narrow k))
          o

  pub turn_joins : held_piece d w h b ≡ None → Joins d w h b
  turn_joins e = MatchOption-at_none (Joins d w h b) (Sends d w h b) e turn

  pub turn_sends : (m : ℕ) → held_piece d w h b ≡ Some m → Sends d w h b m
  turn_sends m e = MatchOption-at_some (Joins d w h b) (Sends d w h b) m e turn
