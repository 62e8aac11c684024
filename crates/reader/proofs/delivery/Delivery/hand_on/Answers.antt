use Rattle.std.proofs.lemmas.Result.{err_from_is_err_and}
use Rattle.reader.proofs.Delivering.{delivered_more, delivered_cut}
use Rattle.reader.proofs.delivery.Delivery.hand_on.Goals as goal

pub returns-in_err-text : goal.returns-in_err-text
returns-in_err-text g c =
    let r = err_from_is_err_and c.from_residual-in_err-text.result c.from_residual-in_err-text.ensures.1 in
    let t = g.T.ParagraphTaker in
    let text = delivered_cut t.means t.keeps t.chained _ _ _ _ _ (rw c.as_slice.ensures at c.in_err-text.ensures) in
    let opened = delivered_more t.means t.keeps t.chained _ _ _ _ _ _ c.in_ok-open_if.ensures text in
    rw (r.1, r.2) (delivered_more t.means t.keeps t.chained _ _ _ _ _ _ c.in_ok-end_if.ensures opened)

pub returns : goal.returns
returns g c =
    let t = g.T.ParagraphTaker in
    let text = delivered_more t.means t.keeps t.chained _ _ _ _ _ _ (rw c.as_slice.ensures at c.in_ok-text.ensures) c.end_if-2.ensures in
    let opened = delivered_more t.means t.keeps t.chained _ _ _ _ _ _ c.in_ok-open_if.ensures text in
    delivered_more t.means t.keeps t.chained _ _ _ _ _ _ c.in_ok-end_if.ensures opened
