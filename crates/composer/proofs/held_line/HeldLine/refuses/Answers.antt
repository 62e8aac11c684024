use Rattle.std.proofs.Common.{◌≡◌, ℕ, Bool, true, false, not, is_some, sym, refl, ap, ◌∙◌}
use Rattle.std.proofs.lemmas.Bool.{eq-eqb, ne_eqb}
use Rattle.folding.specs.Folding.{folding}
use Rattle.folding.specs.Text.{settled_behind}
use Rattle.composer.specs.State.{held_of}
use Rattle.composer.specs.Taking.{text_with}
use Rattle.composer.proofs.Taking.{valid_of}
use Rattle.composer.proofs.Holding.{space_foldable, plain_foldable}
use Rattle.composer.proofs.held_line.HeldLine.refuses.Goals as goal

twice : (x : Bool) → x ≡ not (not x)
twice true = refl
twice false = refl

pub returns-then-b-ne32 : goal.returns-then-b-ne32
returns-then-b-ne32 c =
    let h = c.args.self.now in
    let plain = ne_eqb c.args.b 32 c.if-b-ne32.true in
    c.is_full.ensures ∙ twice _ ∙ ap not (sym (plain_foldable h.margins.depth h.margins.width (held_of h) h.margins.shallow (valid_of h) c.args.b plain h.margins.narrow h.lines))

pub returns-else-b-ne32 : goal.returns-else-b-ne32
returns-else-b-ne32 c =
    let h = c.args.self.now in
    ap not (eq-eqb c.args.b 32 c.if-b-ne32.false)
    ∙ ap not (sym (space_foldable h.margins.depth h.margins.width (held_of h) h.margins.shallow (valid_of h) h.short h.lines))
    ∙ ap (λ (b : ℕ). not (is_some (folding h.margins.depth h.margins.width (settled_behind h.lines (text_with h b))))) (sym c.if-b-ne32.false)
