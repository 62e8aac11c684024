-- The paragraphs of lines have the lines' contents, and nothing else.
use Rattle.std.proofs.Common.{◌≡◌, Bool, true, false, cond, List, [], ◌∷◌, ◌++◌, refl, ap, ◌∙◌, append_assoc, append-nil}
use Rattle.std.specs.List.{flat_map}
use Rattle.folding.specs.Text.{Text}
use Rattle.folding.specs.Reading.{Line}
use Rattle.reading.specs.Lines.{continued_by}
use Rattle.reading.specs.Paragraphs.{Paragraph, text_from, beginning_with, behind}
use Rattle.reading.specs.Laws.{ContentsKept}

abbrev texts_of : List Paragraph → Text
texts_of ps = flat_map (λ p. p.text) ps

kept_from : (l : Line) (ls : List Line) → text_from l ls ++ texts_of (behind l ls) ≡ l.content ++ flat_map (λ m. m.content) ls
kept_from l [] = refl
kept_from l (m ∷ ls) = go (continued_by l m) ∙ ap (λ (t : Text). l.content ++ t) (kept_from m ls)
  where
    go : (x : Bool) →
        (l.content ++ cond x (text_from m ls) []) ++ texts_of (cond x (behind m ls) (beginning_with m ls ∷ behind m ls))
        ≡ l.content ++ (text_from m ls ++ texts_of (behind m ls))
    go true = append_assoc l.content (text_from m ls) (texts_of (behind m ls))
    go false = ap (λ (t : Text). t ++ (text_from m ls ++ texts_of (behind m ls))) (append-nil l.content)

pub contents_kept : ContentsKept
contents_kept [] = refl
contents_kept (l ∷ ls) = kept_from l ls
