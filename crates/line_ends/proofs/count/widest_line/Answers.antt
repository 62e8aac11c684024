use Rattle.std.proofs.Common.{rules, tests, ◌≡◌, sym, ap, ◌∙◌, arith}
use Rattle.std.proofs.lemmas.Iterator.{YieldsList-from_slice}
use Rattle.std.proofs.lemmas.Iterator.Consumers.{fold_from_yields_List}
use Rattle.line_ends.specs.LineEnds.{widest}
use Rattle.line_ends.proofs.Counting.{widest_found}
use Rattle.line_ends.proofs.Told.{widths_on, told_widest, widths_told}
use Rattle.line_ends.proofs.count.widest_line.Goals as goal

pub returns : goal.returns
returns c =
    let t = c.args.text.now in
    let width : c.max.result ≡ widest 0 0 t =
    c.max.ensures
    ∙ ap told_widest (fold_from_yields_List _ widths_on (0, 0) _ c.fold-width.ensures.ran (YieldsList-from_slice t c.iter.ensures.rest) (λ a x r q k. search (rules, tests)))
    ∙ widths_told t 0 0 (omega arith) in
    record { width = width; lines = width ∙ sym (widest_found t) }
