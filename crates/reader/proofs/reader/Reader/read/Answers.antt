use Rattle.std.proofs.Common.{◌≡◌, Ok, arith, rules}
use Rattle.std.proofs.lemmas.Grind.{common_steps}
use Rattle.reader.proofs.reader.Reader.read.Goals as goal

pub returns-in_err-hand_on-clause-changed : goal.returns-in_err-hand_on-clause-changed
returns-in_err-hand_on-clause-changed g c =
    let s : c.step.result ≡ Ok (c.in_ok-plan.plan, c.in_ok-plan.line) = grind (arith, common_steps, c.in_ok-plan.ensures.cases, c.in_ok-plan.ensures.variant) in
    let k = rw s at c.step.ensures in
    rw (← k) (search rules)
