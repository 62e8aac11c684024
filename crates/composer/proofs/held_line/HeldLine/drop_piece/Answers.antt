use Rattle.std.proofs.Common.{◌≡◌, ◌-◌, ◌≤◌, length, None, sym, ap, subst, arith, length-drop}
use Rattle.std.proofs.lemmas.Bool.{leb-false}
use Rattle.std.proofs.lemmas.Grind.{common_steps}
use Rattle.folding.specs.Text.{Text}
use Rattle.folding.specs.WireLine.{width}
use Rattle.folding.specs.Held.{Held, Valid}
use Rattle.folding.specs.Incremental.{held_drop}
use Rattle.composer.specs.Parts.{held_by}
use Rattle.composer.specs.State.{held_of}
use Rattle.composer.proofs.held_line.HeldLine.drop_piece.Goals as goal

pub invariant_of-self : goal.invariant_of-self
invariant_of-self c =
    let h = c.args.self.now in
    let p = c.args.piece in
    let is : held_by c.truncate.new.self.items None (h.spaces - (p - c.min-front.result)) ≡ held_drop p (held_of h) = grind (arith, common_steps) in
    let line = ap (λ (x : Held). x.line) is in
    let len = ap length line in
    let few = h.few in
    let room = leb-false 998 (width h.margins.depth (held_drop p (held_of h)).line) c.requires.room in
    record {
      few = omega (arith, length-drop p h.line.items, c.requires.some, c.requires.within);
      short = subst (λ (t : Text). width h.margins.depth t ≤ 998) (sym line) (omega arith);
      valid = ∣ subst (Valid h.margins.depth h.margins.width) (sym is) c.requires.valid ∣₁;
    }
