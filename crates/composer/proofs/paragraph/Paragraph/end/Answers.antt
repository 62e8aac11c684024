use Rattle.composer.proofs.Sends.{sends_same}
use Rattle.composer.proofs.Paragraphs.{end_sent}
use Rattle.std.proofs.lemmas.Result.{err_from_is_err_and}
use Rattle.composer.proofs.paragraph.Paragraph.end.Goals as goal

pub returns-in_err-send_last-clause-sends : goal.returns-in_err-send_last-clause-sends
returns-in_err-send_last-clause-sends g c =
    let r = err_from_is_err_and c.from_residual.result c.from_residual.ensures.1 in
    rw (r.1, r.2) (sends_same _ _ _ _ _ _ _ (end_sent c.args.self.now.held c.args.self.now.bytes c.requires) c.in_err-send_last.ensures)

pub returns-clause-sends : goal.returns-clause-sends
returns-clause-sends g c = sends_same _ _ _ _ _ _ _ (end_sent c.args.self.now.held c.args.self.now.bytes c.requires) c.in_ok-send_last.ensures
