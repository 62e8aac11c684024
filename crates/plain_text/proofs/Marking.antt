-- The marks of a line.
use Rattle.std.proofs.Common.{◌≡◌, ℕ, suc, ◌+◌, ◌-◌, min, Bool, cond, eqb, [], ◌∷◌, length, take, drop, sym, refl, ap, ◌∙◌, inl, inr, arith}
use Rattle.std.proofs.lemmas.Bool.{cases_Bool}
use Rattle.std.proofs.lemmas.List.{take_all, length-drop}
use Rattle.fault.specs.Faults.{most}
use Rattle.plain_text.specs.declared.line.Depths.TheVariants.{Marks}
use Rattle.folding.specs.Text.{Text}
use Rattle.folding.specs.WireLine.{quote_mark}
use Rattle.folding.specs.Reading.{Line, deeper, read_line, unstuffed}
use Rattle.plain_text.specs.Paragraphs.{marks, of_line, paragraph_of}

-- a line is read behind its marks
pub read_marks : (t : Text) → read_line t ≡ record { depth = marks t; content = unstuffed (drop (marks t) t) }
read_marks [] = refl
read_marks (b ∷ t) =
    let read : Bool → Line = λ x. cond x (deeper (read_line t)) (record { depth = 0; content = unstuffed (b ∷ t) }) in
    let count : Bool → ℕ = λ x. cond x (1 + marks t) 0 in
    let line : ℕ → Line = λ n. record { depth = n; content = unstuffed (drop n (b ∷ t)) } in
    elim (cases_Bool (eqb b quote_mark)) [
      | inl y ↦ let e : suc (marks t) ≡ count (eqb b quote_mark) = (omega arith) ∙ ap count (sym y) in
          let d : marks t + 1 ≡ suc (marks t) = omega arith in
          ap read y ∙ ap deeper (read_marks t) ∙ ap (λ (n : ℕ). record { depth = n; content = unstuffed (drop (marks t) t) }) d ∙ ap line e
      | inr y ↦ ap read y ∙ ap line (ap count (sym y))
    ]

-- a line's depth and text, where its marks are counted
pub marked : (t s : Text) (n d : ℕ) → n ≡ marks t → d ≡ min n most → s ≡ unstuffed (take (length t - n) (drop n t)) → paragraph_of Marks t ≡ record { depth = d; text = s }
marked t s n d is capped e =
    let rest : unstuffed (drop n t) ≡ s = ap unstuffed (sym (take_all (length t - n) (drop n t) (omega (arith, length-drop n t)))) ∙ sym e in
    ap of_line (read_marks t)
    ∙ ap (λ (k : ℕ). record { depth = min k most; text = unstuffed (drop k t) }) (sym is)
    ∙ (λ j. record { depth = sym capped j; text = rest j })
