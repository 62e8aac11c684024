use Rattle.reader.proofs.reader.Reader.last_orders.Goals as goal

pub returns-in_err-open-clause-kept : goal.returns-in_err-open-clause-kept
returns-in_err-open-clause-kept g c = g.T.ParagraphTaker.same _
