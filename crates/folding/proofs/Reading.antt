-- Foldings read back.
use Rattle.std.proofs.Common.{◌≡◌, ℕ, zero, suc, Bool, true, false, cond, ◌||◌, eqb, leb, List, [], ◌∷◌, ◌++◌, replicate, refl, ap, ◌∙◌, subst, add-one, arith}
use Rattle.std.specs.Str.{bytes_eq}
use Rattle.std.specs.List.{AllByRecursion}
use Rattle.std.proofs.ByRecursion.{All-weaker}
use Rattle.std.proofs.lemmas.Slice.Eq.{bytes_eq-Decides}
use Rattle.std.proofs.lemmas.Bool.{le-leb, both_ways}
use Rattle.std.proofs.lemmas.Bool.Decides.{not_from_Decides}
use Rattle.folding.specs.Text.{Text, space, signature, ends_in_space, settled}
use Rattle.folding.specs.WireLine.{quote_mark, stuffed, stuffing, bare_line}
use Rattle.folding.specs.Folded.{Folded, pieces}
use Rattle.folding.specs.Laws.{Flowed}
use Rattle.folding.specs.Reading.{deeper, read_line, Kind, signed, flowed, fixed, kind, FoldingsReadBack}
use Rattle.folding.proofs.Sound.{sound_foldings, signatures_alone}

-- a piece at depth 0 behind its stuffing
reads_unquoted : (p : Text) → read_line (stuffing (stuffed 0 p) ++ p) ≡ record { depth = 0; content = p }
reads_unquoted [] = refl
reads_unquoted (b ∷ p) = go (eqb b space) refl (eqb b quote_mark) refl
  where
    go : (x : Bool) → eqb b space ≡ x → (y : Bool) → eqb b quote_mark ≡ y →
        read_line (stuffing (x || y) ++ b ∷ p) ≡ record { depth = 0; content = b ∷ p }
    go true e y f = refl
    go false e true f = refl
    go false e false f = rw (f, e)

-- quote marks before it
reads_quoted : (d : ℕ) (t p : Text) → read_line t ≡ record { depth = 0; content = p } →
    read_line (replicate d quote_mark ++ t) ≡ record { depth = d; content = p }
reads_quoted zero t p e = e
reads_quoted (suc d) t p e = ap deeper (reads_quoted d t p e) ∙ ap (λ (n : ℕ). record { depth = n; content = p }) (add-one d)

pub line_reads : (d : ℕ) (p : Text) → read_line (bare_line d p) ≡ record { depth = d; content = p }
line_reads zero p = reads_unquoted p
line_reads (suc d) [] = reads_quoted (suc d) [] [] refl
line_reads (suc d) (b ∷ p) =
    let quoted : leb 1 (suc d) ≡ true = le-leb 1 (suc d) (omega arith) in
    ap (λ x. read_line (replicate (suc d) quote_mark ++ (stuffing (x || eqb b space || eqb b quote_mark) ++ b ∷ p))) quoted
    ∙ reads_quoted (suc d) (space ∷ b ∷ p) (b ∷ p) refl

lines_read : (d : ℕ) (ps : List Text) → AllByRecursion (λ p. read_line (bare_line d p) ≡ record { depth = d; content = p }) ps
lines_read d [] = tt
lines_read d (p ∷ ps) = (line_reads d p, lines_read d ps)

-- what the kind of a content tells
abbrev pub OfKind : Text → Kind → Type 0
OfKind p signed = p ≡ signature
OfKind p flowed = (p ≡ signature → ⊥) × (ends_in_space p ≡ true)
OfKind p fixed = (p ≡ signature → ⊥) × (ends_in_space p ≡ false)

pub kind_tells : (p : Text) → OfKind p (kind p)
kind_tells p = go (bytes_eq p signature) refl (ends_in_space p) refl
  where
    unsigned : bytes_eq p signature ≡ false → p ≡ signature → ⊥
    unsigned = not_from_Decides (bytes_eq p signature) (bytes_eq-Decides p signature)

    go : (x : Bool) → bytes_eq p signature ≡ x → (y : Bool) → ends_in_space p ≡ y → OfKind p (cond x signed (cond y flowed fixed))
    go true e y h = (bytes_eq-Decides p signature).0 e
    go false e true h = (unsigned e, h)
    go false e false h = (unsigned e, h)

pub kind_is : (p : Text) (k : Kind) → kind p ≡ k → OfKind p k
kind_is p k e = subst (OfKind p) e (kind_tells p)

pub kind_flowed : (p : Text) → Flowed p → kind p ≡ flowed
kind_flowed p h = go (kind p) (kind_tells p)
  where
    go : (k : Kind) → OfKind p k → k ≡ flowed
    go signed q = absurd (h.unsigned q)
    go flowed q = refl
    go fixed q = absurd (both_ways (ends_in_space p) q.1 h.ends)

pub foldings_read_back : FoldingsReadBack
foldings_read_back d w t f e =
    let s = sound_foldings d w (settled t) f e in
    let a = signatures_alone d w t f e in
    record {
      each = lines_read d (pieces f);
      flowing = All-weaker Flowed (λ p. kind p ≡ flowed) kind_flowed f.flowed s.flowed;
      last = λ k. let q = kind_is f.last flowed k in q.0 (ap (λ (g : Folded). g.last) (a.alone (a.ends q.1)));
      alone = λ k. ap (λ (g : Folded). g.flowed) (a.alone (a.ends (ap ends_in_space (kind_is f.last signed k))));
      text = s.joins;
    }
