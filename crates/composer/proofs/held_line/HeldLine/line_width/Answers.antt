use Rattle.std.proofs.Common.{ℕ, List, ap, ◌∙◌, arith}
use Rattle.std.specs.List.{slice_get}
use Rattle.composer.proofs.Firsts.{line_width, width_empty}
use Rattle.composer.proofs.held_line.HeldLine.line_width.Goals as goal

pub returns-in-Some : goal.returns-in-Some
returns-in-Some c =
    let h = c.args.self.now in
    let first = c.in-Some.ensures.value ∙ ap (λ (xs : List ℕ). slice_get xs 0) c.deref.ensures.0 in
    omega (arith, c.lead.ensures, line_width h.margins.depth h.line.items c.in-Some.first.now first)

pub returns-in-None : goal.returns-in-None
returns-in-None c =
    let h = c.args.self.now in
    width_empty h.margins.depth h.line.items (c.in-None.ensures.value ∙ ap (λ (xs : List ℕ). slice_get xs 0) c.deref.ensures.0)
