-- The dot stage stuffs the lines of a text, and takes no other text.
use Rattle.std.proofs.Common.{◌≡◌, ℕ, Bool, true, false, cond, eqb, List, [], ◌∷◌, ◌++◌, map, Some, None, Option, sym, refl, ap, ◌∙◌, subst, append_assoc, arith, ne_eqb, eqb-true}
use borrow.Author.Tests.{eqb-false}
use Rattle.std.specs.List.{AllByRecursion}
use Rattle.sink.specs.Sink.{Sink, down}
use Rattle.sink.proofs.Going.{down_going}
use Rattle.layer.specs.Wire.{wire, wired, behind}
use Rattle.layer.proofs.Wiring.{wire_adds, added_wire, Tail, tail, tail_of}
use Rattle.dot.specs.declared.line.LineState.{LineState}
use Rattle.dot.specs.declared.line.LineState.TheVariants.{Start, Within, AfterCr}
use Rattle.dot.specs.Stuffing.{crlf, end_mark, Clean, text_of, stuffed_line, stuffed}
use Rattle.dot.specs.Dot.{dot, move_by, line_after, leads, doubled, within}
use Rattle.dot.specs.ByLines.{Stuffs}

abbrev sent : LineState → List ℕ → Option (List ℕ)
sent l bs = wire dot l (down bs true)

-- a byte of a line
clean_on : (b : ℕ) → (b ≡ 13 → ⊥) × (b ≡ 10 → ⊥) → cond (eqb b 10) None (Some (within b)) ≡ Some Within
clean_on b h = rw (ne_eqb b 10 h.1, ne_eqb b 13 h.0) refl

byte_on : (l : LineState) (b : ℕ) (t : LineState) (bs cs : List ℕ) → line_after l b ≡ Some t → sent t bs ≡ Some cs → sent l (b ∷ bs) ≡ Some (doubled (leads l b) b ++ cs)
byte_on l b t bs cs e h = ap (λ (v : Option LineState). wired (move_by v (doubled (leads l b) b)) (λ s. sent s bs)) e ∙ ap (behind (doubled (leads l b) b)) h

crlf_on : (l : LineState) (bs cs : List ℕ) → (l ≡ AfterCr → ⊥) → sent Start bs ≡ Some cs → sent l (crlf ++ bs) ≡ Some (crlf ++ cs)
crlf_on Start bs cs n h = byte_on Start 13 AfterCr (10 ∷ bs) (10 ∷ cs) refl (byte_on AfterCr 10 Start bs cs refl h)
crlf_on Within bs cs n h = byte_on Within 13 AfterCr (10 ∷ bs) (10 ∷ cs) refl (byte_on AfterCr 10 Start bs cs refl h)
crlf_on AfterCr bs cs n h = absurd (n refl)

-- the rest of a line, and its end
rest_on : (l bs cs : List ℕ) → Clean l → sent Start bs ≡ Some cs → sent Within (l ++ (crlf ++ bs)) ≡ Some (l ++ (crlf ++ cs))
rest_on [] bs cs c h = crlf_on Within bs cs (λ e. let z : ◌≡◌ {A = ℕ} 0 1 = cc in absurd (omega arith)) h
rest_on (b ∷ l) bs cs c h = byte_on Within b Within (l ++ (crlf ++ bs)) (l ++ (crlf ++ cs)) (clean_on b c.0) (rest_on l bs cs c.1 h)

first_byte : (x : Bool) (b : ℕ) (l cs : List ℕ) → eqb b 46 ≡ x → doubled x b ++ (l ++ cs) ≡ cond x (46 ∷ b ∷ l) (b ∷ l) ++ cs
first_byte true b l cs e = let q = eqb-true b 46 e in ap (λ (y : ℕ). y ∷ (b ∷ (l ++ cs))) q
first_byte false b l cs e = refl

line_on : (l bs cs : List ℕ) → Clean l → sent Start bs ≡ Some cs → sent Start (l ++ (crlf ++ bs)) ≡ Some (stuffed_line l ++ (crlf ++ cs))
line_on [] bs cs c h = crlf_on Start bs cs (λ e. let z : ◌≡◌ {A = ℕ} 0 1 = cc in absurd (omega arith)) h
line_on (b ∷ l) bs cs c h = byte_on Start b Within (l ++ (crlf ++ bs)) (l ++ (crlf ++ cs)) (clean_on b c.0) (rest_on l bs cs c.1 h) ∙ ap (λ (x : List ℕ). Some x) (first_byte (eqb b 46) b l (crlf ++ cs) refl)

lines_on : (ls : List (List ℕ)) → AllByRecursion Clean ls → sent Start (text_of ls) ≡ Some (stuffed ls)
lines_on [] c = refl
lines_on (l ∷ ls) c =
    line_on l (text_of ls) (stuffed ls) c.0 (lines_on ls c.1)
    ∙ ap (λ (x : List ℕ). Some x) (sym (append_assoc (stuffed_line l) (crlf ++ text_of (map stuffed_line ls)) end_mark))

-- the rest of a line with its end, and further lines
record Rest (bs : List ℕ) : Type 0 where
  first : List ℕ
  clean : Clean first
  lines : List (List ℕ)
  all : AllByRecursion Clean lines
  is : bs ≡ first ++ (crlf ++ text_of lines)

-- what is left of a text, by where it is left
abbrev Left : LineState → List ℕ → Type 0
Left Start bs = (ls : List (List ℕ)) × (AllByRecursion Clean ls × (bs ≡ text_of ls))
Left Within bs = Rest bs
Left AfterCr bs = (ls : List (List ℕ)) × (AllByRecursion Clean ls × (bs ≡ 10 ∷ text_of ls))

none_left : (l : LineState) (cs : List ℕ) → sent l [] ≡ Some cs → Left l []
none_left Start cs e = ([], (tt, refl))
none_left Within cs e = let z : ◌≡◌ {A = ℕ} 0 1 = cc in absurd (omega arith)
none_left AfterCr cs e = let z : ◌≡◌ {A = ℕ} 0 1 = cc in absurd (omega arith)

in_line : (b : ℕ) (bs : List ℕ) (t : LineState) → cond (eqb b 10) None (Some (within b)) ≡ Some t → Left t bs → Rest (b ∷ bs)
in_line b bs t e h = go (eqb b 10) refl (eqb b 13) refl e
  where
    go : (x : Bool) → eqb b 10 ≡ x → (y : Bool) → eqb b 13 ≡ y → cond x None (Some (cond y AfterCr Within)) ≡ Some t → Rest (b ∷ bs)
    go true p y q k = let z : ◌≡◌ {A = ℕ} 0 1 = cc in absurd (omega arith)
    go false p true q k =
        let w : AfterCr ≡ t = cc in
        let r = subst (λ (l : LineState). Left l bs) (sym w) h in
        let n : b ≡ 13 = eqb-true b 13 q in
        record { first = []; clean = tt; lines = r.0; all = r.1.0; is = λ i. n i ∷ r.1.1 i }
    go false p false q k =
        let w : Within ≡ t = cc in
        let r = subst (λ (l : LineState). Left l bs) (sym w) h in
        let cr : b ≡ 13 → ⊥ = eqb-false b 13 q in
        let lf : b ≡ 10 → ⊥ = eqb-false b 10 p in
        record { first = b ∷ r.first; clean = ((cr, lf), r.clean); lines = r.lines; all = r.all; is = ap (λ (x : List ℕ). b ∷ x) r.is }

one_left : (l : LineState) (b : ℕ) (bs : List ℕ) (t : LineState) → line_after l b ≡ Some t → Left t bs → Left l (b ∷ bs)
one_left Start b bs t e h =
    let r = in_line b bs t e h in
    (r.first ∷ r.lines, ((r.clean, r.all), r.is))
one_left Within b bs t e h = in_line b bs t e h
one_left AfterCr b bs t e h = go (eqb b 10) refl e
  where
    go : (x : Bool) → eqb b 10 ≡ x → cond x (Some Start) None ≡ Some t → Left AfterCr (b ∷ bs)
    go true p k =
        let w : Start ≡ t = cc in
        let r = subst (λ (l : LineState). Left l bs) (sym w) h in
        let n : b ≡ 10 = eqb-true b 10 p in
        (r.0, (r.1.0, λ i. n i ∷ r.1.1 i))
    go false p k = let z : ◌≡◌ {A = ℕ} 0 1 = cc in absurd (omega arith)

sent_left : (bs : List ℕ) (l : LineState) (cs : List ℕ) → sent l bs ≡ Some cs → Left l bs
sent_left [] l cs e = none_left l cs e
sent_left (b ∷ bs) l cs e = go (line_after l b) refl e (sent_left bs)
  where
    ds : List ℕ
    ds = doubled (leads l b) b

    onto : (t : LineState) → line_after l b ≡ Some t → Tail ds (sent t bs) cs → ((s : LineState) (es : List ℕ) → sent s bs ≡ Some es → Left s bs) → Left l (b ∷ bs)
    onto t q (tail {ds = es} w p) rest = one_left l b bs t q (rest t es w)

    go : (v : Option LineState) → line_after l b ≡ v → wired (move_by v ds) (λ t. sent t bs) ≡ Some cs → ((s : LineState) (es : List ℕ) → sent s bs ≡ Some es → Left s bs) → Left l (b ∷ bs)
    go None q h rest = let z : ◌≡◌ {A = ℕ} 0 1 = cc in absurd (omega arith)
    go (Some t) q h rest = onto t q (tail_of ds (sent t bs) cs h) rest

pub dot_stuffs : (m : Sink) → Stuffs m
dot_stuffs m = record {
  lines = λ ls c. wire_adds dot (down (text_of ls) true) true (down_going (text_of ls) true) 0 Start m.adds (stuffed ls) (lines_on ls c);
  only = λ bs e. let w = added_wire dot (down bs true) true (down_going bs true) 0 Start m.adds e in sent_left bs Start w.0 w.1;
}
