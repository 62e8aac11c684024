-- What an undoing stage means: what it makes of the next byte after accepted ones, and whether it may stop then.
use Rattle.std.specs.Prelude.{ℕ, ◌+◌, List, [], ◌∷◌, Some, None, Ok, Err, Option, Result}
use Rattle.fault.specs.declared.fault.Fault.{Fault}
use Rattle.fault.specs.Answers.{or_else}

pub record Undoing : Type 0 where
  pub takes : List ℕ → ℕ → Result (Option ℕ) Fault
  pub stop : List ℕ → Option Fault

-- after an accepted byte
abbrev pub next : ℕ → Undoing → Undoing
next b u = record { takes = λ p. u.takes (b ∷ p); stop = λ p. u.stop (b ∷ p) }

-- after a refusal
abbrev pub stuck : Fault → Undoing
stuck f = record { takes = λ p b. Err f; stop = λ p. Some f }

abbrev pub taken_by : Result (Option ℕ) Fault → ℕ → Undoing → Undoing
taken_by (Ok c) b u = next b u
taken_by (Err f) b u = stuck f

-- the stage after it was handed a byte
abbrev pub fed : Undoing → ℕ → Undoing
fed u b = taken_by (u.takes [] b) b u

-- what it makes of a list: the bytes given, how many were accepted, the refusal, and whether it may stop then
pub record Undone : Type 0 where
  pub given : List ℕ
  pub accepted : ℕ
  pub refused : Option Fault
  pub stop : Option Fault

abbrev pub undone_on : Result (Option ℕ) Fault → Undone → Undone
undone_on (Ok (Some c)) r = record { given = c ∷ r.given; accepted = 1 + r.accepted; refused = r.refused; stop = r.stop }
undone_on (Ok None) r = record { given = r.given; accepted = 1 + r.accepted; refused = r.refused; stop = r.stop }
undone_on (Err f) r = record { given = []; accepted = 0; refused = Some f; stop = Some f }

abbrev pub undone : Undoing → List ℕ → Undone
undone u [] = record { given = []; accepted = 0; refused = None; stop = u.stop [] }
undone u (b ∷ bs) = undone_on (u.takes [] b) (undone (next b u) bs)

-- the list given for accepted bytes
abbrev pub put_out : Result (Option ℕ) Fault → List ℕ → List ℕ
put_out (Ok (Some c)) r = c ∷ r
put_out (Ok None) r = r
put_out (Err f) r = r

abbrev pub gives : Undoing → List ℕ → List ℕ
gives u [] = []
gives u (b ∷ bs) = put_out (u.takes [] b) (gives (next b u) bs)

abbrev pub handed : Result (Option ℕ) Fault → (ℕ → Result (Option ℕ) Fault) → Result (Option ℕ) Fault
handed (Ok (Some c)) k = k c
handed (Ok None) k = Ok None
handed (Err f) k = Err f

-- the second fed by the first
abbrev pub piped : Undoing → Undoing → Undoing
piped u v = record {
  takes = λ p b. handed (u.takes p b) (v.takes (gives u p));
  stop = λ p. or_else (u.stop p) (v.stop (gives u p));
}

abbrev pub plain : Undoing
plain = record { takes = λ p b. Ok (Some b); stop = λ p. None }

-- what the second stage of a pair comes to
abbrev pub fed_next : Result (Option ℕ) Fault → Undoing → Undoing
fed_next (Ok (Some c)) v = fed v c
fed_next (Ok None) v = v
fed_next (Err f) v = v

abbrev pub pair_means : Option Fault → Undoing → Undoing → Undoing
pair_means None u v = piped u v
pair_means (Some f) u v = stuck f

abbrev pub held_by : Option Fault → Undoing → Undoing
held_by None u = u
held_by (Some f) u = stuck f

abbrev pub whole : List ℕ → ℕ → Undone
whole bs n = record { given = bs; accepted = n; refused = None; stop = None }
