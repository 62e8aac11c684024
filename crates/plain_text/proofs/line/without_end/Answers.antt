use Rattle.std.proofs.Common.{[], ◌∷◌, Bor, sym, ap, ◌∙◌}
use Rattle.std.proofs.lemmas.Bool.Decides.{Decides-eqb}
use Rattle.std.proofs.lemmas.Slice.Eq.{strip_suffix_is}
use Rattle.folding.specs.Text.{Text}
use Rattle.plain_text.specs.Lines.{line_feed, carriage_return}
use Rattle.plain_text.proofs.Lining.{text_whole, not_ended, without_cr}
use Rattle.plain_text.proofs.line.without_end.Goals as goal

pub returns-in_default : goal.returns-in_default
returns-in_default c =
    let line = c.args.line.now in
    let h = rw c.in_default.is at (strip_suffix_is Decides-eqb line (line_feed ∷ []) c.strip_suffix.result c.strip_suffix.ensures.cases) in
    sym (text_whole line (not_ended line_feed line h))

pub returns : goal.returns
returns c =
    let line = c.args.line.now in
    let text = c.in-Some.text.now in
    let h = rw c.in-Some.is at (strip_suffix_is Decides-eqb line (line_feed ∷ []) c.strip_suffix.result c.strip_suffix.ensures.cases) in
    ap (λ (b : Bor Text). b.now) c.unwrap_or.ensures ∙ without_cr line c.in-Some.text c.strip_suffix-2.result h (strip_suffix_is Decides-eqb text (carriage_return ∷ []) c.strip_suffix-2.result c.strip_suffix-2.ensures.cases)
