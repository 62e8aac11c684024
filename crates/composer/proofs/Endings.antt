-- The last line of a paragraph, and the pieces of what is held.
use Rattle.std.proofs.Common.{◌≡◌, ℕ, ◌+◌, ◌-◌, ◌<◌, ◌≤◌, min, ◌++◌, length, take, replicate, sym, ap, ◌∙◌, ⊎_elim, append-nil, arith}
use lib.Seq.{take-append-le}
use Rattle.std.proofs.lemmas.List.{take_all, take-replicate}
use Rattle.std.proofs.lemmas.Bool.{cases_lt}
use Rattle.folding.specs.Text.{Text, space}
use Rattle.folding.proofs.Widths.{take_on}
use Rattle.composer.specs.declared.held_line.HeldLine.{HeldLine}
use Rattle.composer.specs.State.{held_of, held_text}

-- a piece: the front of the line, and spaces if it reaches into them
pub piece_parts : (h : HeldLine) (p n : ℕ) → n ≡ min p (length h.line.items) → p ≤ length h.line.items + h.spaces → take n h.line.items ++ replicate (p - n) space ≡ take p (held_text (held_of h))
piece_parts h p n e l =
    let line = h.line.items in
    ⊎_elim
    (λ (k : p < length line).
    let at : n ≡ p = omega arith in
    let none : p - n ≡ 0 = omega arith in
    ap (λ (i : ℕ). take n line ++ replicate i space) none ∙ append-nil (take n line)
    ∙ ap (λ (i : ℕ). take i line) at
    ∙ sym (take-append-le p line (replicate h.spaces space) (omega arith)))
    (λ (k : length line ≤ p).
    let over : p - n ≡ p - length line = omega arith in
    ap (λ (t : Text). t ++ replicate (p - n) space) (take_all n line (omega arith))
    ∙ ap (λ (i : ℕ). line ++ replicate i space) over
    ∙ ap (λ (t : Text). line ++ t) (sym (take-replicate (p - length line) h.spaces space (omega arith)))
    ∙ sym (take_on p line (replicate h.spaces space) (omega arith)))
    (cases_lt p (length line))
