-- What lines hand on, one by one, is what their paragraphs tell.
use Rattle.std.proofs.Common.{◌≡◌, ℕ, Bool, true, false, cond, not, ◌&&◌, eqb, List, [], ◌∷◌, ◌++◌, Some, None, Option, sym, refl, ap, ◌∙◌, append_assoc, append-nil}
use Rattle.std.proofs.lemmas.List.{map-append}
use Rattle.folding.specs.Text.{Text}
use Rattle.folding.specs.Reading.{Line, kind}
use Rattle.reading.specs.Lines.{is_flowed, is_signed}
use Rattle.reading.specs.Paragraphs.{Paragraph, text_from, beginning_with, behind, paragraphs, open_after, still_open}
use Rattle.reading.specs.Events.{Event, opened, text, ended, texts, begun, whole, told, end_unless, told_so_far}
use Rattle.reading.proofs.Contents.{told_line}
use Rattle.reading.proofs.LineByLine.{parting, line_events}

-- what lines hand on, by the depth of the paragraph that is open before them, if any
abbrev pub lines_events : Option ℕ → List Line → List Event
lines_events o [] = []
lines_events o (l ∷ ls) = line_events o l ++ lines_events (open_after l) ls

-- what is told behind the text of a paragraph: its end, and the paragraphs behind it
abbrev told_behind : Option ℕ → List Paragraph → List Event
told_behind o [] = end_unless o
told_behind o (p ∷ ps) = ended ∷ told_so_far o (p ∷ ps)

told_first : (o : Option ℕ) (p : Paragraph) (ps : List Paragraph) → told_so_far o (p ∷ ps) ≡ begun p ++ told_behind o ps
told_first o p [] = refl
told_first o p (q ∷ ps) = append_assoc (begun p) (ended ∷ []) (told_so_far o (q ∷ ps))

-- what a line and those behind it hand on from its text on
abbrev Tells : Line → List Line → Type 0
Tells l ls = told_line l ++ lines_events (open_after l) ls ≡ texts (text_from l ls) ++ told_behind (still_open (l ∷ ls)) (behind l ls)

tells_before : (l m : Line) (ls : List Line) → Tells m ls → Tells l (m ∷ ls)
tells_before l m ls goes_on = by_kind (is_flowed (kind c))
  where
    c : Text
    c = l.content

    o : Option ℕ
    o = still_open (m ∷ ls)

    more : List Event
    more = told_line m ++ lines_events (open_after m) ls

    rest : List Paragraph
    rest = behind m ls

    -- a paragraph begins with the next line
    another : opened m.depth ∷ more ≡ told_so_far o (beginning_with m ls ∷ rest)
    another = ap (λ (es : List Event). opened m.depth ∷ es) goes_on ∙ sym (told_first o (beginning_with m ls) rest)

    flowing : (y : Bool) →
        (texts c ++ []) ++ ((cond y [] (ended ∷ opened m.depth ∷ []) ++ told_line m) ++ lines_events (open_after m) ls)
        ≡ texts (c ++ cond y (text_from m ls) []) ++ told_behind o (cond y rest (beginning_with m ls ∷ rest))
    flowing true =
        ap (λ (es : List Event). es ++ more) (append-nil (texts c)) ∙ ap (λ (es : List Event). texts c ++ es) goes_on
        ∙ sym (append_assoc (texts c) (texts (text_from m ls)) (told_behind o rest))
        ∙ ap (λ (es : List Event). es ++ told_behind o rest) (sym (map-append text c (text_from m ls)))
    flowing false =
        ap (λ (es : List Event). (texts c ++ []) ++ (ended ∷ es)) another
        ∙ ap (λ (es : List Event). es ++ (ended ∷ told_so_far o (beginning_with m ls ∷ rest))) (sym (map-append text c []))

    by_kind : (x : Bool) →
        (texts c ++ end_unless (cond x (Some l.depth) None)) ++ ((parting (cond x (Some l.depth) None) m ++ told_line m) ++ lines_events (open_after m) ls)
        ≡ texts (c ++ cond (x && eqb l.depth m.depth && not (is_signed (kind m.content))) (text_from m ls) [])
        ++ told_behind o (cond (x && eqb l.depth m.depth && not (is_signed (kind m.content))) rest (beginning_with m ls ∷ rest))
    by_kind true = flowing (eqb l.depth m.depth && not (is_signed (kind m.content)))
    by_kind false =
        append_assoc (texts c) (ended ∷ []) (opened m.depth ∷ more) ∙ ap (λ (es : List Event). es ++ (ended ∷ (opened m.depth ∷ more))) (sym (append-nil (texts c)))
        ∙ flowing false

tells_from : (l : Line) (ls : List Line) → Tells l ls
tells_from l [] = append-nil (told_line l)
tells_from l (m ∷ ls) = tells_before l m ls (tells_from m ls)

pub lines_tell : (ls : List Line) → lines_events None ls ≡ told_so_far (still_open ls) (paragraphs ls)
lines_tell [] = refl
lines_tell (l ∷ ls) =
    ap (λ (es : List Event). opened l.depth ∷ es) (tells_from l ls) ∙ sym (told_first (still_open (l ∷ ls)) (beginning_with l ls) (behind l ls))

-- where the last paragraph has its end
pub told_ended : (ps : List Paragraph) → told_so_far None ps ≡ told ps
told_ended [] = refl
told_ended (p ∷ []) = sym (append-nil (whole p))
told_ended (p ∷ q ∷ ps) = ap (λ (es : List Event). whole p ++ es) (told_ended (q ∷ ps))

-- and where it has not
pub told_open : (d : ℕ) (p : Paragraph) (ps : List Paragraph) → told_so_far (Some d) (p ∷ ps) ++ ended ∷ [] ≡ told (p ∷ ps)
told_open d p [] = ap (λ (es : List Event). es ++ ended ∷ []) (append-nil (begun p)) ∙ sym (append-nil (whole p))
told_open d p (q ∷ ps) = append_assoc (whole p) (told_so_far (Some d) (q ∷ ps)) (ended ∷ []) ∙ ap (λ (es : List Event). whole p ++ es) (told_open d q ps)
