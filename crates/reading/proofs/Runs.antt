-- Runs of bytes one after the other.
use Rattle.std.proofs.Common.{◌≡◌, ℕ, List, [], ◌∷◌, ◌++◌, Ok, Err, Result, sym, refl, ap, ◌∙◌, subst, append_assoc}
use Rattle.fault.specs.declared.cause.Cause.{Cause}
use Rattle.reading.specs.Events.{Event}
use Rattle.reading.specs.Machine.{State, Step, hands, refuses, step}
use Rattle.reading.specs.Runs.{Run, run, run_by}
use Rattle.reading.specs.Laws.{run_on, BytesInTurn}

-- events before those of a run
abbrev before : List Event → Run → Run
before es r = record { handed = es ++ r.handed; left = r.left }

before_run_on : (es fs : List Event) (l : Result State Cause) (cs : List ℕ) → before es (run_on fs l cs) ≡ run_on (es ++ fs) l cs
before_run_on es fs (Ok s) cs = ap (λ (gs : List Event). record { handed = gs; left = (run s cs).left }) (sym (append_assoc es fs (run s cs).handed))
before_run_on es fs (Err c) cs = refl

pub bytes_in_turn : BytesInTurn
bytes_in_turn s [] cs = refl
bytes_in_turn s (b ∷ bs) cs = go (step s b) (λ t. bytes_in_turn t bs cs)
  where
    go : (w : Step) → ((t : State) → run t (bs ++ cs) ≡ run_on (run t bs).handed (run t bs).left cs) →
        run_by w (λ t. run t (bs ++ cs)) ≡ run_on (run_by w (λ t. run t bs)).handed (run_by w (λ t. run t bs)).left cs
    go (hands es t) rest = ap (before es) (rest t) ∙ before_run_on es (run t bs).handed (run t bs).left cs
    go (refuses c) rest = refl

-- bytes from the state s hand on the events es and lead to the state t
pub record Goes (s : State) (bs : List ℕ) (es : List Event) (t : State) : Type 0 where
  pub runs : run s bs ≡ record { handed = es; left = Ok t }

pub goes_none : {s : State} → Goes s [] [] s
goes_none = record { runs = refl }

pub goes_as : {s t : State} {bs : List ℕ} {es fs : List Event} → Goes s bs es t → es ≡ fs → Goes s bs fs t
goes_as {s} {t} {bs} h e = subst (λ (gs : List Event). Goes s bs gs t) e h

pub goes_byte : {s t u : State} {b : ℕ} {bs : List ℕ} {es fs : List Event} → step s b ≡ hands es t → Goes t bs fs u → Goes s (b ∷ bs) (es ++ fs) u
goes_byte {bs = bs} {es = es} e h = record { runs = ap (λ (w : Step). run_by w (λ t. run t bs)) e ∙ ap (before es) h.runs }

pub goes_then : {s t u : State} {bs cs : List ℕ} {es fs : List Event} → Goes s bs es t → Goes t cs fs u → Goes s (bs ++ cs) (es ++ fs) u
goes_then {s = s} {bs = bs} {cs = cs} {es = es} h k =
    record { runs = bytes_in_turn s bs cs ∙ ap (λ (r : Run). run_on r.handed r.left cs) h.runs ∙ ap (before es) k.runs }
