-- The folding byte by byte: which lines a byte sends, from no more than the last line and a count of spaces.
use Rattle.std.specs.Prelude.{ℕ, zero, suc, ◌+◌, ◌-◌, min, Bool, true, false, cond, not, ◌&&◌, List, [], ◌∷◌, ◌++◌, length, take, drop, Some, None, Option, ◌==◌, nat_le, nat_lt}
use Rattle.std.specs.Option.{option_or}
use Rattle.folding.specs.WireLine.{lead}
use Rattle.folding.specs.Text.{Text, space, signature}
use Rattle.folding.specs.Folded.{Folded}
use Rattle.folding.specs.Held.{Held, nothing, held_with, is_dashes, full}

-- whether a break may stand behind r bytes, among the spaces behind a line of n bytes; `dashed` says that the line is 2D 2D
abbrev pub break_among : ℕ → Bool → ℕ → Bool
break_among n dashed r = nat_lt n r && not (dashed && r == 3)

-- the first break among s spaces behind a line of n bytes
abbrev pub first_among : ℕ → ℕ → Bool → Option ℕ
first_among n s true = cond (nat_lt 1 s) (Some (n + 2)) None
first_among n s false = cond (nat_lt 0 s) (Some (n + 1)) None

-- where a line of n bytes, with its last break, s spaces and one more byte behind it, is broken at width w, with k bytes before
-- the piece: nowhere if all of it fits, at the furthest place among the spaces that fits, at the last break, or at the first
-- place among the spaces
abbrev pub break_place : ℕ → Option ℕ → ℕ → Bool → ℕ → ℕ → Option ℕ
break_place n last_break s dashed k w =
    let r = min (n + s) (w - k) in
    cond (nat_le (k + (n + s + 1)) w) None
    (cond (break_among n dashed r) (Some r)
    (option_or last_break (first_among n s dashed)))

-- the length of the piece that a byte other than a space sends, if it sends one
abbrev pub held_piece : ℕ → ℕ → Held → ℕ → Option ℕ
held_piece d w h b = break_place (length h.line) h.last_break h.spaces (is_dashes h) (lead d (held_with h b)) w

-- what is held once the first n bytes are sent
abbrev pub held_drop : ℕ → Held → Held
held_drop n h = record { line = drop n h.line; last_break = None; spaces = h.spaces - (n - length h.line) }

-- what is held once the spaces and a byte have joined the line
abbrev pub held_join : Held → ℕ → Held
held_join h b =
    let n = length h.line + h.spaces in
    record {
      line = held_with h b;
      last_break = cond (break_among (length h.line) (is_dashes h) n) (Some n) h.last_break;
      spaces = 0;
    }

abbrev pub held_space : Held → Held
held_space h = record { line = h.line; last_break = h.last_break; spaces = h.spaces + 1 }

-- the lines sent, and what is held then
pub record Progress : Type 0 where
  pub sent : List Text
  pub held : Held

abbrev pub start : Progress
start = record { sent = []; held = nothing }

abbrev pub and_then : Progress → Progress → Progress
and_then a s = record { sent = a.sent ++ s.sent; held = s.held }

-- piece after piece is sent, until the line takes what is left
abbrev pub send_piece : Option ℕ → Held → ℕ → (Held → Progress) → Progress
send_piece None h b more = record { sent = []; held = held_join h b }
send_piece (Some n) h b more = let s = more (held_drop n h) in record { sent = take n (held_with h b) ∷ s.sent; held = s.held }

-- at most k turns
unfoldable pub send_in : ℕ → ℕ → ℕ → Held → ℕ → Progress
send_in zero d w h b = record { sent = []; held = h }
send_in (suc k) d w h b = send_piece (held_piece d w h b) h b (λ g. send_in k d w g b)

-- they are enough, since each piece takes a byte at least
abbrev pub send : ℕ → ℕ → Held → ℕ → Progress
send d w h b = send_in (length (held_with h b) + 1) d w h b

-- a space is counted
abbrev pub count_space : Held → Progress
count_space h = record { sent = []; held = held_space h }

-- what a text byte sends, unless it is refused, which a space never is
abbrev pub put : ℕ → ℕ → Held → ℕ → Option Progress
put d w h b = cond (b == space) (Some (count_space h)) (cond (full d h) None (Some (send d w h b)))

-- a whole text, byte after byte
abbrev pub put_then : Progress → Option Progress → (Progress → Option Progress) → Option Progress
put_then a None more = None
put_then a (Some s) more = more (and_then a s)

abbrev pub put_all : ℕ → ℕ → Progress → Text → Option Progress
put_all d w a [] = Some a
put_all d w a (b ∷ t) = put_then a (put d w a.held b) (λ s. put_all d w s t)

-- the folding so far
abbrev pub so_far : Progress → Folded
so_far a = record { flowed = a.sent; last = a.held.line }

-- the last line at the paragraph's end, behind n lines: 2D 2D 20 is the whole text only where no line was sent
abbrev pub ending : ℕ → Held → Text
ending zero h = cond (is_dashes h && h.spaces == 1) signature h.line
ending (suc n) h = h.line

abbrev pub ended : Progress → Folded
ended a = record { flowed = a.sent; last = ending (length a.sent) a.held }
