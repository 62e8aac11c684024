-- What an answer says of the fault.
use Rattle.std.proofs.Common.{◌≡◌, ℕ, Some, None, Ok, Err, Option, refl, arith}
use Rattle.fault.specs.declared.fault.Fault.{Fault}
use Rattle.fault.specs.Answers.{answer}

pub answer_err : {T : Type 0} (t : T) (f : Fault) (x : Option Fault) → Err f ≡ answer t x → x ≡ Some f
answer_err t f (Some g) e = cc
answer_err t f None e = let z : ◌≡◌ {A = ℕ} 0 1 = cc in absurd (omega arith)

pub answer_ok : {T : Type 0} (t u : T) (x : Option Fault) → Ok u ≡ answer t x → x ≡ None
answer_ok t u None e = refl
answer_ok t u (Some g) e = let z : ◌≡◌ {A = ℕ} 0 1 = cc in absurd (omega arith)
