-- The dot stage's moves, at the tests that the code makes.
use Rattle.std.proofs.Common.{◌≡◌, ℕ, Bool, true, false, [], Some, None, Option, sym, refl, ap, ap₂, arith}
use Rattle.fault.specs.declared.cause.Cause.TheVariants.{Unpaired, Incomplete}
use Rattle.sink.specs.Sink.{put, close}
use Rattle.layer.specs.Layer.{Stirs, sends, stops}
use Rattle.dot.specs.declared.line.LineState.{LineState}
use Rattle.dot.specs.declared.line.LineState.TheVariants.{Start, Within, AfterCr}
use Rattle.dot.specs.Dot.{dot, dot_move, move_by, line_after, leads, doubled}

no_silence : (v : Option LineState) (x : Bool) (b : ℕ) (t : LineState) → move_by v (doubled x b) ≡ sends [] t → ◌≡◌ {A = ℕ} 0 1
no_silence (Some l) true b t e = cc
no_silence (Some l) false b t e = cc
no_silence None x b t e = cc

pub dot_stirs : Stirs dot
dot_stirs s (put b) t c e = let z = no_silence (line_after s b) (leads s b) b t e in absurd (omega arith)
dot_stirs s close t c e = let z : ◌≡◌ {A = ℕ} 0 1 = cc in absurd (omega arith)

pub puts_on : (l l' : LineState) (b : ℕ) (t : Bool) → Some l' ≡ line_after l b → t ≡ leads l b → dot_move l (put b) ≡ sends (doubled t b) l'
puts_on l l' b t el et = ap₂ (λ x y. move_by x (doubled y b)) (sym el) (sym et)

pub puts_not : (l : LineState) (b : ℕ) → line_after l b ≡ None → dot_move l (put b) ≡ stops Unpaired
puts_not l b e = ap (λ x. move_by x (doubled (leads l b) b)) e

pub closes_not : (l : LineState) → (l ≡ Start → ⊥) → dot_move l close ≡ stops Incomplete
closes_not Start h = absurd (h refl)
closes_not Within h = refl
closes_not AfterCr h = refl
