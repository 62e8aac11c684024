use Rattle.std.proofs.Common.{sym, ap, ◌∙◌}
use Rattle.plain_text.specs.declared.line.Depths.{Depths}
use Rattle.plain_text.specs.declared.line.Depths.TheVariants.{Marks}
use Rattle.plain_text.specs.Lines.{line_text}
use Rattle.plain_text.specs.Paragraphs.{paragraph_of}
use Rattle.plain_text.proofs.Marking.{marked}
use Rattle.plain_text.proofs.line.Line.read.Goals as goal

pub returns-in-Marks : goal.returns-in-Marks
returns-in-Marks c =
    sym (marked c.without_end-text.result.now _ _ _ c.quote_marks-marks.ensures.count c.capped.ensures c.without_space.ensures)
    ∙ ap (paragraph_of Marks) c.without_end-text.ensures
    ∙ ap (λ (ds : Depths). paragraph_of ds (line_text c.args.line.now)) (sym c.in-Marks.is)
