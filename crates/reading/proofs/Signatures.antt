-- Beginnings of 2D 2D 20.
use Rattle.std.proofs.Common.{◌≡◌, ℕ, ◌≤◌, true, false, ◌&&◌, eqb, [], ◌∷◌, ◌++◌, length, sym, refl, subst, arith}
use Rattle.std.specs.Str.{bytes_eq}
use Rattle.std.specs.List.{AllByRecursion}
use Rattle.std.proofs.lemmas.Bool.{both_ways, and_parts, and_from, eqb-true}
use Rattle.taker.specs.Paragraph.{barred}
use Rattle.folding.specs.Text.{Text, space, signature, ends_in_space}
use Rattle.reading.specs.Lines.{Clean}
use Rattle.reading.specs.Machine.{beginning_of}
use Rattle.reading.specs.Held.{ToldByBytes}

-- a beginning of a beginning is one
pub beginning_shorter : (t u s : Text) → beginning_of (t ++ u) s ≡ true → beginning_of t s ≡ true
beginning_shorter [] u s e = refl
beginning_shorter (b ∷ t) u [] e = absurd (both_ways false refl e)
beginning_shorter (b ∷ t) u (c ∷ s) e =
    let p = and_parts (eqb b c) (beginning_of (t ++ u) s) e in
    and_from (eqb b c) (beginning_of t s) p.0 (beginning_shorter t u s p.1)

-- it is no longer, and has no other bytes
pub beginning_short : (t s : Text) → beginning_of t s ≡ true → length t ≤ length s
beginning_short [] s e = omega arith
beginning_short (b ∷ t) [] e = absurd (both_ways false refl e)
beginning_short (b ∷ t) (c ∷ s) e = omega (arith, beginning_short t s (and_parts (eqb b c) (beginning_of t s) e).1)

beginning_all : (P : ℕ → Type 0) (t s : Text) → beginning_of t s ≡ true → AllByRecursion P s → AllByRecursion P t
beginning_all P [] s e h = tt
beginning_all P (b ∷ t) [] e h = absurd (both_ways false refl e)
beginning_all P (b ∷ t) (c ∷ s) e h =
    let p = and_parts (eqb b c) (beginning_of t s) e in
    (subst P (sym (eqb-true b c p.0)) h.0, beginning_all P t s p.1 h.1)

pub beginning_clean : (t : Text) → beginning_of t signature ≡ true → Clean t
beginning_clean t e = beginning_all (λ b. barred b ≡ false) t signature e (refl, (refl, (refl, tt)))

-- a text is a beginning of itself
pub same_beginning : (t s : Text) → bytes_eq t s ≡ true → beginning_of t s ≡ true
same_beginning [] s e = refl
same_beginning (b ∷ t) [] e = absurd (both_ways false refl e)
same_beginning (b ∷ t) (c ∷ s) e =
    let p = and_parts (eqb b c) (bytes_eq t s) e in
    and_from (eqb b c) (beginning_of t s) p.0 (same_beginning t s p.1)

dash_space : (b : ℕ) → eqb b 0x2D ≡ true → eqb b space ≡ true → ⊥
dash_space b e h = omega (arith, eqb-true b 0x2D e, eqb-true b space h)

-- 2D 2D 20 is its only beginning that ends in a space
pub beginning_ends : (t : Text) → beginning_of t signature ≡ true → ends_in_space t ≡ true → bytes_eq t signature ≡ true
beginning_ends [] e h = absurd (both_ways false refl h)
beginning_ends (a ∷ []) e h = let p = and_parts (eqb a 0x2D) true e in absurd (dash_space a p.0 h)
beginning_ends (a ∷ b ∷ []) e h =
    let p = and_parts (eqb a 0x2D) (eqb b 0x2D && true) e in
    absurd (dash_space b (and_parts (eqb b 0x2D) true p.1).0 h)
beginning_ends (a ∷ b ∷ c ∷ []) e h = e
beginning_ends (a ∷ b ∷ c ∷ d ∷ t) e h =
    let p = and_parts (eqb a 0x2D) (eqb b 0x2D && (eqb c space && false)) e in
    let q = and_parts (eqb b 0x2D) (eqb c space && false) p.1 in
    absurd (both_ways false refl (and_parts (eqb c space) false q.1).1)

-- by the number of bytes
pub told_by_bytes : ToldByBytes
told_by_bytes [] = (refl, refl)
told_by_bytes (a ∷ []) = (grind arith, grind arith)
told_by_bytes (a ∷ b ∷ []) = (grind arith, grind arith)
told_by_bytes (a ∷ b ∷ c ∷ []) = (grind arith, grind arith)
told_by_bytes (a ∷ b ∷ c ∷ d ∷ t) = (grind arith, grind arith)
