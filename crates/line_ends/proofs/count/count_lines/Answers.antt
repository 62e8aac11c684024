use Rattle.std.proofs.Common.{rules, tests, ◌≡◌, sym, ◌∙◌, arith}
use Rattle.std.proofs.lemmas.Iterator.{YieldsList-from_slice}
use Rattle.std.proofs.lemmas.Iterator.Consumers.{fold_from_yields_List}
use Rattle.line_ends.specs.LineEnds.{line_feeds}
use Rattle.line_ends.proofs.Counting.{feeds_counted}
use Rattle.line_ends.proofs.Told.{feeds_on, feeds_told}
use Rattle.line_ends.proofs.count.count_lines.Goals as goal

pub returns : goal.returns
returns c =
    let t = c.args.text.now in
    let feeds : c.fold.result ≡ line_feeds t =
    fold_from_yields_List _ feeds_on 0 _ c.fold.ensures.ran (YieldsList-from_slice t c.iter.ensures.rest) (λ a x r q k. search (rules, tests))
    ∙ feeds_told t 0 (omega arith)
    ∙ omega arith in
    record { feeds = feeds; count = feeds ∙ sym (feeds_counted t) }
