-- Lines one by one.
use Rattle.std.proofs.Common.{◌≡◌, ℕ, ◌+◌, ◌<◌, ◌≤◌, Bool, true, false, cond, not, ◌&&◌, eqb, List, [], ◌∷◌, ◌++◌, Some, None, Ok, Option, sym, refl, ap, ◌∙◌, subst, append_assoc, append-nil, add-zero, zero-add, arith}
use Rattle.std.proofs.lemmas.Bool.{lt-ltb}
use Rattle.taker.specs.Paragraph.{deepest}
use Rattle.folding.specs.Text.{Text, space}
use Rattle.folding.specs.WireLine.{quote_mark, crlf}
use Rattle.folding.specs.Reading.{Line, deeper, read_line, kind}
use Rattle.reading.specs.Lines.{Clean, is_signed, Readable}
use Rattle.reading.specs.Paragraphs.{open_after}
use Rattle.reading.specs.Events.{Event, opened, ended}
use Rattle.reading.specs.Machine.{State, in_marks, in_content, at_line, held, hands, refuses, Step, with_before, goes_on, settling, step}
use Rattle.reading.specs.Runs.{run_by, run, Run}
use Rattle.reading.proofs.Constructors.{err_ok}
use Rattle.reading.proofs.Runs.{Goes, goes_as, goes_byte}
use Rattle.reading.proofs.Contents.{apart, told_line, line, content_line}

-- what a line hands on before its text, by the depth of the paragraph that is open before it, if any: nothing, if that goes on
abbrev pub parting : Option ℕ → Line → List Event
parting None l = opened l.depth ∷ []
parting (Some e) l = cond (eqb e l.depth && not (is_signed (kind l.content))) [] (ended ∷ opened l.depth ∷ [])

abbrev pub line_events : Option ℕ → Line → List Event
line_events o l = parting o l ++ told_line l

-- the same by where it is handed on: what the settled depth does, and what a signature line does at its end
parts : (o : Option ℕ) (d : ℕ) (c : Text) → settling o d ++ apart (goes_on o d) d c ≡ parting o (record { depth = d; content = c })
parts None d c = go (is_signed (kind c))
  where
    go : (s : Bool) → opened d ∷ cond (s && false) (ended ∷ opened d ∷ []) [] ≡ opened d ∷ []
    go true = refl
    go false = refl
parts (Some e) d c = go (eqb e d) (is_signed (kind c))
  where
    go : (x s : Bool) → cond x [] (ended ∷ opened d ∷ []) ++ cond (s && x) (ended ∷ opened d ∷ []) [] ≡ cond (x && not s) [] (ended ∷ opened d ∷ [])
    go true true = refl
    go true false = refl
    go false true = refl
    go false false = refl

-- a first byte that does what another state does with it, with events before that
led : {s t u : State} {b : ℕ} {bs : List ℕ} (es : List Event) {fs : List Event} → step s b ≡ with_before es (step t b) → Goes t (b ∷ bs) fs u →
    Goes s (b ∷ bs) (es ++ fs) u
led {s} {t} {u} {b} {bs} es {fs} e h = record { runs = ap (λ (w : Step). run_by w rest) e ∙ go (step t b) h.runs }
  where
    rest : State → Run
    rest v = run v bs

    go : (w : Step) → run_by w rest ≡ record { handed = fs; left = Ok u } → run_by (with_before es w) rest ≡ record { handed = es ++ fs; left = Ok u }
    go (hands gs v) k =
        ap (λ (hs : List Event). record { handed = hs; left = (rest v).left }) (append_assoc es gs (rest v).handed)
        ∙ ap (λ (r : Run). record { handed = es ++ r.handed; left = r.left }) k
    go (refuses c) k = absurd (err_ok (ap (λ (r : Run). r.left) k))

-- bytes are read as a line
abbrev ReadsLine : Option ℕ → ℕ → List ℕ → Line → Type 0
ReadsLine o n bs l = Goes (in_marks o n) bs (line_events o l) (at_line (open_after l))

-- a line behind its quote marks
unmarked : (o : Option ℕ) (n : ℕ) (c : Text) (bs : List ℕ) →
    Goes (in_marks o n) bs (settling o n ++ (apart (goes_on o n) n c ++ told_line (line n c))) (at_line (open_after (line n c))) →
    ReadsLine o n bs (line n c)
unmarked o n c bs h =
    goes_as h
    (sym (append_assoc (settling o n) (apart (goes_on o n) n c) (told_line (line n c)))
    ∙ ap (λ (es : List Event). es ++ told_line (line n c)) (parts o n c))

-- a line with n quote marks before it
abbrev deepened : ℕ → Line → Line
deepened n l = line (n + l.depth) l.content

undeepened : (o : Option ℕ) (n : ℕ) (c : Text) (bs : List ℕ) → ReadsLine o n bs (line n c) → ReadsLine o n bs (deepened n (line 0 c))
undeepened o n c bs h = subst (λ (d : ℕ). ReadsLine o n bs (line d c)) (sym (add-zero n)) h

-- a line from its first n quote marks on
line_from : (o : Option ℕ) (n : ℕ) (l : Text) → n + (read_line l).depth ≤ deepest → Clean l →
    ReadsLine o n (l ++ crlf) (deepened n (read_line l))
line_from o n [] s h = undeepened o n [] crlf (unmarked o n [] crlf (led (settling o n) refl (content_line n (goes_on o n) [] tt)))
line_from o n (b ∷ l) s h = go (eqb b quote_mark) refl (eqb b space) refl s (λ k. line_from o (n + 1) l k h.1)
  where
    read_by : Bool → Bool → Line
    read_by x y = cond x (deeper (read_line l)) (line 0 (cond y l (b ∷ l)))

    go : (x : Bool) → eqb b quote_mark ≡ x → (y : Bool) → eqb b space ≡ y → n + (read_by x y).depth ≤ deepest →
        ((n + 1) + (read_line l).depth ≤ deepest → ReadsLine o (n + 1) (l ++ crlf) (deepened (n + 1) (read_line l))) →
        ReadsLine o n (b ∷ (l ++ crlf)) (deepened n (read_by x y))
    go true p y q k rest =
        let room : n < deepest = omega (arith, k) in
        let deep : step (in_marks o n) b ≡ hands [] (in_marks o (n + 1)) = rw (p, lt-ltb n deepest room) refl in
        let same : n + 1 + (read_line l).depth ≡ n + ((read_line l).depth + 1) = omega arith in
        subst (λ (d : ℕ). ReadsLine o n (b ∷ (l ++ crlf)) (line d (read_line l).content)) same (goes_byte deep (rest (omega (arith, k))))
    go false p true q k rest =
        let dropped : step (in_marks o n) b ≡ hands (settling o n) (in_content n (goes_on o n) (held [])) = rw (p, q, append-nil (settling o n)) refl in
        undeepened o n l (b ∷ (l ++ crlf)) (unmarked o n l (b ∷ (l ++ crlf)) (goes_byte dropped (content_line n (goes_on o n) l h.1)))
    go false p false q k rest =
        let first : step (in_marks o n) b ≡ with_before (settling o n) (step (in_content n (goes_on o n) (held [])) b) = rw (p, q) refl in
        undeepened o n (b ∷ l) (b ∷ (l ++ crlf)) (unmarked o n (b ∷ l) (b ∷ (l ++ crlf)) (led (settling o n) first (content_line n (goes_on o n) (b ∷ l) h)))

pub line_reads : (o : Option ℕ) (l : Text) → Readable l → Goes (at_line o) (l ++ crlf) (line_events o (read_line l)) (at_line (open_after (read_line l)))
line_reads o l h =
    subst (λ (d : ℕ). ReadsLine o 0 (l ++ crlf) (line d (read_line l).content)) (zero-add (read_line l).depth)
    (line_from o 0 l (omega (arith, h.shallow)) h.clean)
