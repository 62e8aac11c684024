-- Steps after steps.
use Rattle.std.proofs.Common.{◌≡◌, ℕ, List, ◌++◌, Ok, Err, Result, sym, ap, ◌∙◌, subst, append_assoc}
use Rattle.fault.specs.declared.fault.Fault.{Fault}
use Rattle.taker.specs.Mail.{Paragraph}
use Rattle.taker.specs.Paragraph.{Taker}
use Rattle.history.specs.History.{Step, Reached}
use Rattle.plain_text.specs.Grows.{whole, Grows, Handed, GrowsBy}
use Rattle.plain_text.specs.Handing.{HandedOne}

pub grows_on : {E : Type 0} (m n p : Taker E) (j k : List Step) → Grows m n j → Grows n p k → Grows m p (k ++ j)
grows_on {E} m n p j k a b s h r = subst (λ (l : List Step). Reached s l p) (sym (append_assoc k j h)) (b s (j ++ h) (a s h r))

-- by the steps of one paragraph; where the answer is a number, by a whole one
pub handed_of : {E : Type 0} {m n : Taker E} (p : Paragraph) (r : Result ℕ Fault) → GrowsBy m n (HandedOne p r) → Handed m n p.depth p.text r
handed_of p (Ok lines) g = record {
  steps = g.steps;
  grows = g.grows;
  accepted = λ l q. (g.so.0, g.so.1 ∙ ap (whole p.depth p.text g.so.0) (let is : lines ≡ l = cc in is));
}
handed_of p (Err f) g = record {
  steps = g.steps;
  grows = g.grows;
  accepted = λ l q. absurd cc;
}
