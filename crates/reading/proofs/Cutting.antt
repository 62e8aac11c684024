-- Where the first paragraph of lines ends.
use Rattle.std.proofs.Common.{◌≡◌, ℕ, true, false, List, [], ◌∷◌, ◌++◌, map, sym, refl, ap, subst, append-nil}
use Rattle.std.specs.List.{flat_map, AllByRecursion}
use Rattle.std.proofs.lemmas.Bool.{eq-eqb}
use Rattle.folding.specs.Text.{Text}
use Rattle.folding.specs.Reading.{Line, Kind, signed, flowed, fixed, kind}
use Rattle.reading.specs.Lines.{is_flowed, is_signed, continued_by}
use Rattle.reading.specs.Paragraphs.{Paragraph, paragraphs, still_open}
use Rattle.reading.proofs.Contents.{line}

-- the first paragraph of ls is p, and behind it there are the lines ms
pub record Cut (ls : List Line) (p : Paragraph) (ms : List Line) : Type 0 where
  pub first : paragraphs ls ≡ p ∷ paragraphs ms
  pub last : still_open ls ≡ still_open ms

-- a line that is not flowed is the last of its paragraph
pub last_line : (l : Line) (ms : List Line) → is_flowed (kind l.content) ≡ false → Cut (l ∷ ms) (record { depth = l.depth; text = l.content }) ms
last_line l [] e = record { first = refl; last = rw e refl }
last_line l (m ∷ ms) e = record { first = rw (e, append-nil l.content) refl; last = refl }

-- a line before a paragraph that goes on from it
abbrev longer : Line → List Paragraph → List Paragraph
longer l [] = []
longer l (p ∷ ps) = record { depth = l.depth; text = l.content ++ p.text } ∷ ps

pub flowed_line : (l m : Line) (p : Paragraph) (ls ms : List Line) → continued_by l m ≡ true → Cut (m ∷ ls) p ms →
    Cut (l ∷ m ∷ ls) (record { depth = l.depth; text = l.content ++ p.text }) ms
flowed_line l m p ls ms e c = record { first = rw e (ap (longer l) c.first); last = c.last }

module _ (d : ℕ) where
  goes_on : (p q : Text) (k : Kind) → kind p ≡ flowed → kind q ≡ k → is_signed k ≡ false → continued_by (line d p) (line d q) ≡ true
  goes_on p q k e f n = rw (e, eq-eqb d d refl, f, n) refl

  -- lines of depth d, by their contents, are a paragraph, and behind them there are the lines ms
  abbrev pub OneParagraph : List Text → List Line → Type 0
  OneParagraph cs ms = Cut (map (line d) cs ++ ms) (record { depth = d; text = flat_map (λ c. c) cs }) ms

  alone : (q : Text) (ms : List Line) → is_flowed (kind q) ≡ false → OneParagraph (q ∷ []) ms
  alone q ms e = rw (append-nil q) (last_line (line d q) ms e)

  flowing : (fs : List Text) (q : Text) (ms : List Line) → AllByRecursion (λ p. kind p ≡ flowed) fs → kind q ≡ fixed → OneParagraph (fs ++ q ∷ []) ms
  flowing [] q ms h e = alone q ms (ap is_flowed e)
  flowing (f ∷ []) q ms h e = flowed_line (line d f) (line d q) _ ms ms (goes_on f q fixed h.0 e refl) (flowing [] q ms tt e)
  flowing (f ∷ g ∷ fs) q ms h e =
      flowed_line (line d f) (line d g) _ (map (line d) (fs ++ q ∷ []) ++ ms) ms (goes_on f g flowed h.0 h.1.0 refl) (flowing (g ∷ fs) q ms h.1 e)

  -- flowed lines, and a last one that is not flowed, and a signature line only if it is the only one
  pub one_paragraph : (fs : List Text) (q : Text) (ms : List Line) → AllByRecursion (λ p. kind p ≡ flowed) fs → (kind q ≡ flowed → ⊥) → (kind q ≡ signed → fs ≡ []) →
      OneParagraph (fs ++ q ∷ []) ms
  one_paragraph fs q ms h n a = go (kind q) refl
    where
      go : (k : Kind) → kind q ≡ k → OneParagraph (fs ++ q ∷ []) ms
      go signed e = subst (λ (gs : List Text). OneParagraph (gs ++ q ∷ []) ms) (sym (a e)) (alone q ms (ap is_flowed e))
      go flowed e = absurd (n e)
      go fixed e = flowing fs q ms h e
