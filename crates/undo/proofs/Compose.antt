-- What two undoing stages give back one after the other, their pair gives back.
use Rattle.std.proofs.Common.{◌≡◌, ℕ, List, [], ◌∷◌, length, Some, None, Ok, Err, Option, Result, sym, refl, ap, ◌∙◌, subst, ap₂, arith}
use Rattle.fault.specs.declared.fault.Fault.{Fault}
use Rattle.fault.specs.Answers.{or_else}
use Rattle.undo.specs.Undoing.{Undoing, Undone, next, undone, undone_on, handed, put_out, gives, piped, whole}

-- a list came back whole: by its parts
pub record Back (r : Undone) (bs foot : List ℕ) : Type 0 where
  pub given : r.given ≡ bs
  pub accepted : r.accepted ≡ length foot
  pub refused : r.refused ≡ None
  pub stop : r.stop ≡ None

pub back : (r : Undone) (bs foot : List ℕ) → r ≡ whole bs (length foot) → Back r bs foot
back r bs foot e = record { given = ap (λ (x : Undone). x.given) e; accepted = ap (λ (x : Undone). x.accepted) e; refused = ap (λ (x : Undone). x.refused) e; stop = ap (λ (x : Undone). x.stop) e }

pub back_whole : (r : Undone) (bs foot : List ℕ) → Back r bs foot → r ≡ whole bs (length foot)
back_whole r bs foot h = λ i. record { given = h.given i; accepted = h.accepted i; refused = h.refused i; stop = h.stop i }

abbrev Answer : Type 0
Answer = Result (Option ℕ) Fault

-- the first byte of a list that came back whole: nothing was given for it, or the first byte of what came back
pub data First (a : Answer) (r : Undone) (foot : List ℕ) : List ℕ → Type 0 where
  nothing : {bs : List ℕ} → a ≡ Ok None → Back r bs foot → First a r foot bs
  a_byte : {c : ℕ} {bs : List ℕ} → a ≡ Ok (Some c) → Back r bs foot → First a r foot (c ∷ bs)

pub first : (a : Answer) (r : Undone) (b : ℕ) (foot bs : List ℕ) → Back (undone_on a r) bs (b ∷ foot) → First a r foot bs
first (Err f) r b foot bs h = let q = h.refused in let z : ◌≡◌ {A = ℕ} 0 1 = cc in absurd (omega arith)
first (Ok None) r b foot bs h = nothing refl (record { given = h.given; accepted = let q = h.accepted in omega arith; refused = h.refused; stop = h.stop })
first (Ok (Some c)) r b foot [] h = let q = h.given in let z : ◌≡◌ {A = ℕ} 0 1 = cc in absurd (omega arith)
first (Ok (Some c)) r b foot (d ∷ bs) h =
    let q = h.given in
    let p : c ≡ d = cc in
    a_byte (ap (λ (x : ℕ). Ok (Some x)) p) (record { given = cc; accepted = let n = h.accepted in omega arith; refused = h.refused; stop = h.stop })

-- a byte in front
pub none_more : (a : Answer) (r : Undone) (b : ℕ) (bs foot : List ℕ) → a ≡ Ok None → Back r bs foot → Back (undone_on a r) bs (b ∷ foot)
none_more a r b bs foot e h = rw e (record { given = h.given; accepted = let n = h.accepted in omega arith; refused = h.refused; stop = h.stop })

pub one_more : (a : Answer) (r : Undone) (b c : ℕ) (bs foot : List ℕ) → a ≡ Ok (Some c) → Back r bs foot → Back (undone_on a r) (c ∷ bs) (b ∷ foot)
one_more a r b c bs foot e h = rw e (record { given = ap (λ (x : List ℕ). c ∷ x) h.given; accepted = let n = h.accepted in omega arith; refused = h.refused; stop = h.stop })

-- the pair after a byte
abbrev piped_on : Answer → ℕ → Undoing → Undoing → Undoing
piped_on a b u v = record {
  takes = λ p x. handed (u.takes (b ∷ p) x) (v.takes (put_out a (gives (next b u) p)));
  stop = λ p. or_else (u.stop (b ∷ p)) (v.stop (put_out a (gives (next b u) p)));
}

module _ (u v : Undoing) (b : ℕ) (foot : List ℕ) (rec : (v' : Undoing) (cs bs : List ℕ) → Back (undone (next b u) foot) cs foot → Back (undone v' cs) bs cs → Back (undone (piped (next b u) v') foot) bs foot) where
  abbrev both_take : Answer
  both_take = handed (u.takes [] b) (v.takes [])

  abbrev rest : Undone
  rest = undone (next b (piped u v)) foot

  moved : (a : Answer) (bs : List ℕ) → u.takes [] b ≡ a → Back (undone (piped_on a b u v) foot) bs foot → Back rest bs foot
  moved a bs e h = subst (λ (x : Answer). Back (undone (piped_on x b u v) foot) bs foot) (sym e) h

  second : (c : ℕ) (cs bs : List ℕ) → u.takes [] b ≡ Ok (Some c) → Back (undone (next b u) foot) cs foot → First (v.takes [] c) (undone (next c v) cs) cs bs → Back (undone_on both_take rest) bs (b ∷ foot)
  second c cs bs e r (nothing e2 r2) = none_more both_take rest b bs foot (ap (λ (a : Answer). handed a (v.takes [])) e ∙ e2) (moved (Ok (Some c)) bs e (rec (next c v) cs bs r r2))
  second c cs bs e r (a_byte {c = d} {bs = ds} e2 r2) = one_more both_take rest b d ds foot (ap (λ (a : Answer). handed a (v.takes [])) e ∙ e2) (moved (Ok (Some c)) ds e (rec (next c v) cs ds r r2))

  pair_step : (cs bs : List ℕ) → First (u.takes [] b) (undone (next b u) foot) foot cs → Back (undone v cs) bs cs → Back (undone_on both_take rest) bs (b ∷ foot)
  pair_step cs bs (nothing e r) k = none_more both_take rest b bs foot (ap (λ (a : Answer). handed a (v.takes [])) e) (moved (Ok None) bs e (rec v cs bs r k))
  pair_step cs bs (a_byte {c = c} {bs = ds} e r) k = second c ds bs e r (first (v.takes [] c) (undone (next c v) ds) c ds bs k)

pub composed : (u v : Undoing) (foot cs bs : List ℕ) → Back (undone u foot) cs foot → Back (undone v cs) bs cs → Back (undone (piped u v) foot) bs foot
composed u v [] [] bs h k = record { given = k.given; accepted = refl; refused = refl; stop = ap₂ or_else h.stop k.stop }
composed u v [] (c ∷ cs) bs h k = let q = h.given in let z : ◌≡◌ {A = ℕ} 0 1 = cc in absurd (omega arith)
composed u v (b ∷ foot) cs bs h k = pair_step u v b foot (λ v' cs' bs'. composed (next b u) v' foot cs' bs') cs bs (first (u.takes [] b) (undone (next b u) foot) b foot cs h) k
