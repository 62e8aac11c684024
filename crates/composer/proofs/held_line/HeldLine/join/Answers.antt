use Rattle.std.proofs.Common.{◌≡◌, ◌≤◌, length, sym, ap, subst, arith}
use Rattle.folding.specs.Text.{Text}
use Rattle.folding.specs.WireLine.{width}
use Rattle.folding.specs.Held.{Valid}
use Rattle.folding.specs.Incremental.{held_join}
use Rattle.folding.proofs.HeldBreaks.{held_length}
use Rattle.composer.specs.Parts.{held_by}
use Rattle.composer.specs.State.{held_of}
use Rattle.composer.proofs.held_line.HeldLine.join.Goals as goal

pub invariant_of-self : goal.invariant_of-self
invariant_of-self c =
    let h = c.args.self.now in
    let few = c.requires.few in
    let line = c.append.ensures in
    let len = ap length line in
    let is : held_by c.append.new.line.items c.break_behind-last_break.result 0 ≡ held_join (held_of h) c.args.b =
    λ i. record { line = line i; last_break = c.break_behind-last_break.ensures c.args.b i; spaces = 0 } in
    record {
      few = omega (arith, held_length (held_of h) c.args.b);
      short = subst (λ (t : Text). width h.margins.depth t ≤ 998) (sym line) c.requires.width;
      valid = ∣ subst (Valid h.margins.depth h.margins.width) (sym is) c.requires.valid ∣₁;
    }

pub returns-clause-held : goal.returns-clause-held
returns-clause-held c = λ i. record { line = c.append.ensures i; last_break = c.break_behind-last_break.ensures c.args.b i; spaces = 0 }
