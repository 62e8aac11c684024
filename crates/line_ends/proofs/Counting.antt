-- The counts, by the lines that a text splits into.
use Rattle.std.proofs.Common.{◌≡◌, ℕ, ◌+◌, ◌≤◌, max, Bool, true, false, cond, not, ◌&&◌, eqb, List, [], ◌∷◌, length, count_by, sym, refl, ap, ◌∙◌, arith}
use Rattle.std.specs.List.{fold, onto_first}
use Rattle.std.proofs.Math.Bool.{and-false}
use Rattle.std.proofs.lemmas.Bool.{eqb-true}
use Rattle.std.proofs.lemmas.List.Recursion.{is_count_by}
use Rattle.std.proofs.lemmas.List.Sums.{sum_by-cons}
use Rattle.std.proofs.lemmas.Grind.{common_steps}
use Rattle.line_ends.specs.LineEnds.{parts, dotted, breadth, one_if, line_feeds, leading_dots, on_byte, widest}

pub one_at_most : (x : Bool) → one_if x ≤ 1
one_at_most true = omega arith
one_at_most false = omega arith

one_more : (x : Bool) (n : ℕ) → one_if x + n ≡ cond x (1 + n) n
one_more true n = refl
one_more false n = omega arith

pub feeds_counted : (t : List ℕ) → count_by (λ b. eqb b 10) t ≡ line_feeds t
feeds_counted t = sym (is_count_by line_feeds (λ b. eqb b 10) refl (λ b u. one_more (eqb b 10) (line_feeds u)) t)

-- of the first part, where a line begins there, and of the others
abbrev pub dotted_from : Bool → List (List ℕ) → ℕ
dotted_from true ls = count_by dotted ls
dotted_from false [] = 0
dotted_from false (l ∷ ls) = count_by dotted ls

-- a byte is put before the first part
dot_first : (b : ℕ) → cond (eqb 46 b && true) 1 0 ≡ one_if (eqb b 46 && true)
dot_first b = grind (arith, common_steps)

dots_onto : (b : ℕ) (x : Bool) (l : List ℕ) (ls : List (List ℕ)) → dotted_from x ((b ∷ l) ∷ ls) ≡ one_if (eqb b 46 && x) + count_by dotted ls
dots_onto b true l ls = sum_by-cons (λ k. cond (dotted k) 1 0) (b ∷ l) ls ∙ ap (λ (n : ℕ). n + count_by dotted ls) (dot_first b)
dots_onto b false l ls = omega (arith, ap one_if (and-false (eqb b 46)))

-- a line ends
dots_behind : (b : ℕ) (x : Bool) → eqb b 10 ≡ true → (ls : List (List ℕ)) → dotted_from x ([] ∷ ls) ≡ one_if (eqb b 46 && x) + count_by dotted ls
dots_behind b x e ls = go x ∙ ap (λ (v : ℕ). one_if (eqb v 46 && x) + count_by dotted ls) (sym (eqb-true b 10 e))
  where
    go : (y : Bool) → dotted_from y ([] ∷ ls) ≡ 0 + count_by dotted ls
    go true = sum_by-cons (λ k. cond (dotted k) 1 0) [] ls
    go false = omega arith

dots_step : (b : ℕ) (x y : Bool) → eqb b 10 ≡ y → (ls : List (List ℕ)) → dotted_from x (cond y ([] ∷ ls) (onto_first b ls)) ≡ one_if (eqb b 46 && x) + dotted_from y ls
dots_step b x true e ls = dots_behind b x e ls
dots_step b x false e [] = dots_onto b x [] []
dots_step b x false e (l ∷ ls) = dots_onto b x l ls

-- at most one for each byte
pub dots_few : (p : ℕ) (t : List ℕ) → leading_dots p t ≤ length t
dots_few p [] = omega arith
dots_few p (b ∷ t) = omega (arith, one_at_most (eqb b 46 && eqb p 10), dots_few b t)

pub dots_counted : (p : ℕ) (t : List ℕ) → dotted_from (eqb p 10) (parts t) ≡ leading_dots p t
dots_counted p [] = at_end (eqb p 10)
  where
    at_end : (x : Bool) → dotted_from x ([] ∷ []) ≡ 0
    at_end true = refl
    at_end false = refl
dots_counted p (b ∷ t) = dots_step b (eqb p 10) (eqb b 10) refl (parts t) ∙ ap (λ (n : ℕ). one_if (eqb b 46 && eqb p 10) + n) (dots_counted b t)

-- of the first part, with a width before it, and of the others
abbrev pub widest_from : ℕ → ℕ → List (List ℕ) → ℕ
widest_from w m [] = max m (w + 0)
widest_from w m (l ∷ ls) = fold (λ a k. max a (breadth k)) (max m (w + breadth l)) ls

-- a byte is put before the first part
width_onto : (w m b : ℕ) (y : Bool) → eqb b 13 ≡ y → (l : List ℕ) (ls : List (List ℕ)) → widest_from w m ((b ∷ l) ∷ ls) ≡ widest_from (cond {A = ℕ × ℕ} y (w, m) (w + 1, m)).0 (cond {A = ℕ × ℕ} y (w, m) (w + 1, m)).1 (l ∷ ls)
width_onto w m b y e l ls = ap (λ (n : ℕ). fold (λ a k. max a (breadth k)) (max m (w + n)) ls) (sum_by-cons (λ x. cond (not (eqb x 13)) 1 0) b l ∙ ap (λ (z : Bool). cond (not z) 1 0 + breadth l) e) ∙ go y
  where
    go : (z : Bool) → fold (λ a k. max a (breadth k)) (max m (w + (cond (not z) 1 0 + breadth l))) ls ≡ widest_from (cond {A = ℕ × ℕ} z (w, m) (w + 1, m)).0 (cond {A = ℕ × ℕ} z (w, m) (w + 1, m)).1 (l ∷ ls)
    go true = ap (λ (n : ℕ). fold (λ a k. max a (breadth k)) (max m n) ls) (omega arith)
    go false = ap (λ (n : ℕ). fold (λ a k. max a (breadth k)) (max m n) ls) (omega arith)

width_step : (w m b : ℕ) (x : Bool) (ls : List (List ℕ)) → widest_from w m (cond x ([] ∷ ls) (onto_first b ls)) ≡ widest_from (cond {A = ℕ × ℕ} x (0, max w m) (cond {A = ℕ × ℕ} (eqb b 13) (w, m) (w + 1, m))).0 (cond {A = ℕ × ℕ} x (0, max w m) (cond {A = ℕ × ℕ} (eqb b 13) (w, m) (w + 1, m))).1 ls
width_step w m b true [] = omega arith
width_step w m b true (l ∷ ls) = ap (λ (n : ℕ). fold (λ a k. max a (breadth k)) n ls) (omega arith)
width_step w m b false [] = width_onto w m b (eqb b 13) refl [] []
width_step w m b false (l ∷ ls) = width_onto w m b (eqb b 13) refl l ls

widths_compared : (w m : ℕ) (t : List ℕ) → widest_from w m (parts t) ≡ widest w m t
widths_compared w m [] = omega arith
widths_compared w m (b ∷ t) = width_step w m b (eqb b 10) (parts t) ∙ widths_compared (on_byte w m b).0 (on_byte w m b).1 t

pub widest_found : (t : List ℕ) → fold (λ a k. max a (breadth k)) 0 (parts t) ≡ widest 0 0 t
widest_found t = from_none (parts t) ∙ widths_compared 0 0 t
  where
    from_none : (ls : List (List ℕ)) → fold (λ a k. max a (breadth k)) 0 ls ≡ widest_from 0 0 ls
    from_none [] = omega arith
    from_none (l ∷ ls) = ap (λ (n : ℕ). fold (λ a k. max a (breadth k)) n ls) (omega arith)
