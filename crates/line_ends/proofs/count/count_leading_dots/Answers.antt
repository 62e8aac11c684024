use Rattle.std.proofs.Common.{rules, tests, ◌≡◌, ap, sym, ℕ, ◌∙◌, arith}
use Rattle.std.proofs.lemmas.Iterator.{YieldsList-from_slice}
use Rattle.std.proofs.lemmas.Iterator.Consumers.{fold_from_yields_List}
use Rattle.line_ends.specs.LineEnds.{leading_dots}
use Rattle.line_ends.proofs.Counting.{dots_few, dots_counted}
use Rattle.line_ends.proofs.Told.{dots_on, dots_told}
use Rattle.line_ends.proofs.count.count_leading_dots.Goals as goal

pub returns : goal.returns
returns c =
    let t = c.args.text.now in
    let dots : c.fold.result.1 ≡ leading_dots 10 t =
    ap (λ (a : ℕ × ℕ). a.1) (fold_from_yields_List _ dots_on (10, 0) _ c.fold.ensures.ran (YieldsList-from_slice t c.iter.ensures.rest) (λ a x r q k. search (rules, tests)))
    ∙ dots_told t 10 0 (omega arith)
    ∙ omega arith in
    record { dots = dots; lines = dots ∙ sym (dots_counted 10 t); few = omega (arith, dots_few 10 t) }
