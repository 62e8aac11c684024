-- Texts with no 00, 0A and 0D in them.
use Rattle.std.proofs.Common.{◌≡◌, ℕ, true, false, ◌||◌, eqb, [], ◌∷◌, ◌++◌, refl}
use Rattle.std.proofs.ByRecursion.{All-append, All-push}
use Rattle.std.proofs.lemmas.Bool.{both_ways, or_from, or_parts}
use Rattle.taker.specs.Paragraph.{barred}
use Rattle.folding.specs.Text.{Text}
use Rattle.reading.specs.Lines.{Clean}
use Rattle.reading.proofs.Joins.{all_front, all_back}

abbrev Unbarred : ℕ → Type 0
Unbarred b = barred b ≡ false

pub clean_append : (t u : Text) → Clean t → Clean u → Clean (t ++ u)
clean_append t u = All-append Unbarred t u

pub clean_push : (t : Text) (b : ℕ) → Clean t → barred b ≡ false → Clean (t ++ b ∷ [])
clean_push t b = All-push Unbarred t b

pub clean_front : (t u : Text) → Clean (t ++ u) → Clean t
clean_front t u = all_front Unbarred t u

-- there is no 0D in it
pub clean_cr : (t u : Text) → Clean (t ++ 0x0D ∷ u) → ⊥
clean_cr t u h = both_ways true (all_back Unbarred t (0x0D ∷ u) h).0 refl

-- a byte that may be text is none of the three
pub record Unlike (b : ℕ) : Type 0 where
  pub null : eqb b 0x00 ≡ false
  pub line_feed : eqb b 0x0A ≡ false
  pub return : eqb b 0x0D ≡ false

pub unbarred_unlike : (b : ℕ) → barred b ≡ false → Unlike b
unbarred_unlike b e =
    let p = or_parts (eqb b 0 || eqb b 10) (eqb b 13) e in
    let q = or_parts (eqb b 0) (eqb b 10) p.0 in
    record { null = q.0; line_feed = q.1; return = p.1 }

pub unlike_unbarred : (b : ℕ) → Unlike b → barred b ≡ false
unlike_unbarred b u = or_from (eqb b 0 || eqb b 10) (eqb b 13) (or_from (eqb b 0) (eqb b 10) u.null u.line_feed) u.return
