-- The dot stage keeps the law of sinks over every sink that keeps it.
use Rattle.std.specs.Prelude.{◌≡◌, ℕ, Bool, true, false, cond, List, [], ◌∷◌, ◌++◌, Some, None, Ok, Err, Option, ◌==◌, nat_eq, refl}
use Rattle.std.proofs.Common.{sym, ap, subst, ◌∙◌, arith, eqb-true}
use Rattle.fault.specs.declared.fault.Fault.{Fault}
use Rattle.fault.specs.declared.cause.Cause.TheVariants.{Unpaired}
use Rattle.orders.specs.declared.phase.Phase.{Phase}
use Rattle.orders.specs.Steps.{grown}
use Rattle.undo.specs.Undoing.{undone}
use Rattle.undo.proofs.Compose.{Back, none_more, one_more}
use Rattle.sink.specs.Sink.{Sink, down}
use Rattle.sink.specs.Law.{Lawful}
use Rattle.layer.specs.Layer.{layer_means}
use Rattle.layer.specs.Wire.{wire, wired}
use Rattle.layer.proofs.Wiring.{Tail, tail, tail_of}
use Rattle.layer.proofs.Law.{Undoes, stage_lawful}
use Rattle.dot.specs.declared.line.LineState.{LineState}
use Rattle.dot.specs.declared.line.LineState.TheVariants.{Start, Within, AfterCr}
use Rattle.dot.specs.declared.undo_state.UndoState.{UndoState}
use Rattle.dot.specs.declared.undo_state.UndoState.TheVariants.{Start as u_start, Within as u_within, AfterCr as u_cr, Mark, MarkCr}
use Rattle.dot.specs.Stuffing.{end_mark}
use Rattle.dot.specs.Undot.{Undot, undotting, undot, in_line, undot_answer, state_on}
use Rattle.dot.specs.Dot.{dot, move_by, line_after, leads, doubled, within, at_start}

-- where the undoing stands when the stage stands so
abbrev undoing_at : LineState → UndoState
undoing_at Start = u_start
undoing_at Within = u_within
undoing_at AfterCr = u_cr

gives_one : (s t : UndoState) (k b c : ℕ) (cs bs : List ℕ) → undot s b ≡ Ok (Some c, t) → Back (undone (undotting (grown k) t) cs) bs cs → Back (undone (undotting k s) (b ∷ cs)) (c ∷ bs) (b ∷ cs)
gives_one s t k b c cs bs e h =
    one_more (undot_answer k (undot s b)) (undone (undotting (grown k) (state_on (undot s b) s)) cs) b c bs cs (ap (undot_answer k) e) (subst (λ x. Back (undone (undotting (grown k) (state_on x s)) cs) bs cs) (sym e) h)

gives_none : (s t : UndoState) (k b : ℕ) (cs bs : List ℕ) → undot s b ≡ Ok (None, t) → Back (undone (undotting (grown k) t) cs) bs cs → Back (undone (undotting k s) (b ∷ cs)) bs (b ∷ cs)
gives_none s t k b cs bs e h =
    none_more (undot_answer k (undot s b)) (undone (undotting (grown k) (state_on (undot s b) s)) cs) b bs cs (ap (undot_answer k) e) (subst (λ x. Back (undone (undotting (grown k) (state_on x s)) cs) bs cs) (sym e) h)

at_within : (x : Bool) → undoing_at (cond x AfterCr Within) ≡ cond x u_cr u_within
at_within true = refl
at_within false = refl

-- a byte of a line
in_line_is : (b : ℕ) (l : LineState) → cond (b == 10) None (Some (within b)) ≡ Some l → in_line b ≡ Ok (Some b, undoing_at l)
in_line_is b l e = go (b == 10) e
  where
    go : (x : Bool) → cond x None (Some (within b)) ≡ Some l → cond {A = Undot} x (Err Unpaired) (Ok (Some b, cond (b == 13) u_cr u_within)) ≡ Ok (Some b, undoing_at l)
    go true h = let n : ◌≡◌ {A = ℕ} 0 1 = cc in absurd (omega arith)
    go false h = let w : within b ≡ l = cc in ap (λ (t : UndoState). Ok (Some b, t)) (sym (at_within (b == 13)) ∙ ap undoing_at w)

abbrev GivesBack : LineState → List ℕ → List ℕ → Type 0
GivesBack l bs cs = (j : ℕ) → Back (undone (undotting j (undoing_at l)) cs) bs cs

one_byte : (l : LineState) (b : ℕ) (l' : LineState) → line_after l b ≡ Some l' → (cs bs : List ℕ) → GivesBack l' bs cs → GivesBack l (b ∷ bs) (doubled (leads l b) b ++ cs)
one_byte Start b l' e cs bs h k = go (b == 46) refl
  where
    go : (x : Bool) → (b == 46) ≡ x → Back (undone (undotting k u_start) (doubled x b ++ cs)) (b ∷ bs) (doubled x b ++ cs)
    go true q =
        let n : b ≡ 46 = eqb-true b 46 q in
        let no_cr : nat_eq b 13 ≡ false = rw n refl in
        gives_none u_start Mark k b (b ∷ cs) (b ∷ bs) (ap (λ x. cond {A = Undot} x (Ok (None, Mark)) (in_line b)) q) (gives_one Mark (undoing_at l') (grown k) b b cs bs (ap (λ x. cond {A = Undot} x (Ok (None, MarkCr)) (in_line b)) no_cr ∙ in_line_is b l' e) (h (grown (grown k))))
    go false q = gives_one u_start (undoing_at l') k b b cs bs (ap (λ x. cond {A = Undot} x (Ok (None, Mark)) (in_line b)) q ∙ in_line_is b l' e) (h (grown k))
one_byte Within b l' e cs bs h k = gives_one u_within (undoing_at l') k b b cs bs (in_line_is b l' e) (h (grown k))
one_byte AfterCr b l' e cs bs h k = gives_one u_cr (undoing_at l') k b b cs bs (go (b == 10) e) (h (grown k))
  where
    go : (x : Bool) → cond x (Some Start) None ≡ Some l' → cond {A = Undot} x (Ok (Some b, u_start)) (Err Unpaired) ≡ Ok (Some b, undoing_at l')
    go true q = let w : Start ≡ l' = cc in ap (λ (x : LineState). Ok (Some b, undoing_at x)) w
    go false q = let n : ◌≡◌ {A = ℕ} 0 1 = cc in absurd (omega arith)

none_left : (l : LineState) (cs : List ℕ) → wire dot l (down [] true) ≡ Some cs → GivesBack l [] cs
none_left Start cs e j = let q : end_mark ≡ cs = cc in subst (λ (x : List ℕ). Back (undone (undotting j u_start) x) [] x) q (record { given = refl; accepted = refl; refused = refl; stop = refl })
none_left Within cs e j = let z : ◌≡◌ {A = ℕ} 0 1 = cc in absurd (omega arith)
none_left AfterCr cs e j = let z : ◌≡◌ {A = ℕ} 0 1 = cc in absurd (omega arith)

-- what the stage sends down, its undoing gives back
gives_back : (bs : List ℕ) (l : LineState) (cs : List ℕ) → wire dot l (down bs true) ≡ Some cs → GivesBack l bs cs
gives_back [] l cs e = none_left l cs e
gives_back (b ∷ bs) l cs e = go (line_after l b) refl e (gives_back bs)
  where
    ds : List ℕ
    ds = doubled (leads l b) b

    Rest : Type 0
    Rest = (t : LineState) (es : List ℕ) → wire dot t (down bs true) ≡ Some es → GivesBack t bs es

    joined : (t : LineState) → line_after l b ≡ Some t → Tail ds (wire dot t (down bs true)) cs → Rest → GivesBack l (b ∷ bs) cs
    joined t q (tail {ds = es} w p) rest = subst (λ (x : List ℕ). GivesBack l (b ∷ bs) x) p (one_byte l b t q es bs (rest t es w))

    go : (v : Option LineState) → line_after l b ≡ v → wired (move_by v ds) (λ t. wire dot t (down bs true)) ≡ Some cs → Rest → GivesBack l (b ∷ bs) cs
    go None q h rest = let z : ◌≡◌ {A = ℕ} 0 1 = cc in absurd (omega arith)
    go (Some t) q h rest = joined t q (tail_of ds (wire dot t (down bs true)) cs h) rest

dot_undoes : Undoes dot (undotting 0 u_start)
dot_undoes = record { over = λ u. refl; gives = from_start }
  where
    from_start : (s : LineState) → at_start s ≡ true → (bs cs : List ℕ) → wire dot s (down bs true) ≡ Some cs → Back (undone (undotting 0 u_start) cs) bs cs
    from_start Start r bs cs e = gives_back bs Start cs e 0
    from_start Within r bs cs e = let z : ◌≡◌ {A = ℕ} 0 1 = cc in absurd (omega arith)
    from_start AfterCr r bs cs e = let z : ◌≡◌ {A = ℕ} 0 1 = cc in absurd (omega arith)

pub dot_lawful : (m : Sink) (l : LineState) (ph : Phase Fault) (n : ℕ) → Lawful m → Lawful (layer_means dot m l ph n)
dot_lawful m l ph n h = stage_lawful dot (undotting 0 u_start) dot_undoes m l n h ph
