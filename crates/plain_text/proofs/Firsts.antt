-- The first line of a text.
use Rattle.std.proofs.Common.{◌≡◌, ℕ, suc, ◌+◌, ◌<◌, ◌≤◌, Bool, true, false, cond, not, eqb, List, [], ◌∷◌, length, take, drop, Some, None, nat_lt, ltb-false, refl, ap, ◌∙◌, inl, inr, arith}
use Rattle.std.specs.List.{position}
use Rattle.std.proofs.lemmas.List.{length-map}
use Rattle.std.proofs.lemmas.Bool.{cases_Bool}
use Rattle.folding.specs.Text.{Text}
use Rattle.plain_text.specs.declared.line.Depths.{Depths}
use Rattle.plain_text.specs.Lines.{line_feed, onto, cut, line_text, text_lines, before_feed, first_line, behind_line}
use Rattle.plain_text.specs.Paragraphs.{paragraph_of, paragraphs_of}

-- one byte on
feed_here : (b : ℕ) (t : Text) → eqb b line_feed ≡ true → before_feed (b ∷ t) ≡ 0
feed_here b t h = ap (λ (x : Bool). cond (not x) (1 + before_feed t) 0) h

feed_on : (b : ℕ) (t : Text) → eqb b line_feed ≡ false → before_feed (b ∷ t) ≡ suc (before_feed t)
feed_on b t h = ap (λ (x : Bool). cond (not x) (1 + before_feed t) 0) h ∙ (omega arith)

-- a byte more in front of the first line
onto_first : (b : ℕ) (t : Text) → (0 < length t → cut t ≡ first_line t ∷ cut (behind_line t)) → onto b (cut t) ≡ (b ∷ first_line t) ∷ cut (behind_line t)
onto_first b [] h = refl
onto_first b (c ∷ t) h = ap (onto b) (h (omega arith))

pub cut_first : (t : Text) → 0 < length t → cut t ≡ first_line t ∷ cut (behind_line t)
cut_first [] h = absurd (omega arith)
cut_first (b ∷ t) h =
    let here : Bool → List Text = λ x. cond x ((b ∷ []) ∷ cut t) (onto b (cut t)) in
    let lines : ℕ → List Text = λ n. take n (b ∷ t) ∷ cut (drop n (b ∷ t)) in
    elim (cases_Bool (eqb b line_feed)) [
      | inl y ↦ let e : 1 ≡ before_feed (b ∷ t) + 1 = omega (arith, feed_here b t y) in ap here y ∙ ap lines e
      | inr y ↦ let e : suc (before_feed t + 1) ≡ before_feed (b ∷ t) + 1 = omega (arith, feed_on b t y) in ap here y ∙ onto_first b t (cut_first t) ∙ ap lines e
    ]

-- where the first LF stands, if there is one
pub feed_at : (t : Text) (i : ℕ) → position (λ b. eqb b line_feed) t ≡ Some i → before_feed t ≡ i
feed_at t i h = elim (cases_Bool (nat_lt (before_feed t) (length t))) [
  | inl y ↦ let e = ap (λ (x : Bool). cond x (Some (before_feed t)) None) y in cc
  | inr y ↦ let e = ap (λ (x : Bool). cond x (Some (before_feed t)) None) y in cc
]

pub no_feed : (t : Text) → position (λ b. eqb b line_feed) t ≡ None → length t ≤ before_feed t
no_feed t h = elim (cases_Bool (nat_lt (before_feed t) (length t))) [
  | inl y ↦ let e = ap (λ (x : Bool). cond x (Some (before_feed t)) None) y in absurd cc
  | inr y ↦ ltb-false (before_feed t) (length t) y
]

-- no more lines than bytes, and no more paragraphs
onto_few : (b : ℕ) (ls : List Text) → length (onto b ls) ≤ length ls + 1
onto_few b [] = omega arith
onto_few b (l ∷ ls) = omega arith

cut_few : (t : Text) → length (cut t) ≤ length t
cut_few [] = omega arith
cut_few (b ∷ t) = go (eqb b line_feed) (cut_few t)
  where
    go : (x : Bool) → length (cut t) ≤ length t → length (cond x ((b ∷ []) ∷ cut t) (onto b (cut t))) ≤ length (b ∷ t)
    go true n = omega arith
    go false n = omega (arith, onto_few b (cut t))

pub paragraphs_few : (ds : Depths) (t : Text) → length (paragraphs_of ds t) ≤ length t
paragraphs_few ds t = omega (arith, cut_few t, length-map (text_lines t) (paragraph_of ds), length-map (cut t) line_text)
