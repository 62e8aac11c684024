use Rattle.std.proofs.Common.{sym, ap, ◌∙◌}
use Rattle.std.proofs.lemmas.Result.{err_from_is_err_and}
use Rattle.fault.specs.Answers.{told, via, answer}
use Rattle.orders.specs.Steps.{value}
use Rattle.taker.specs.Paragraph.{gives_up}
use Rattle.taker.specs.Mail.{Paragraph}
use Rattle.plain_text.proofs.Growing.{handed_of}
use Rattle.plain_text.proofs.Ones.{refused_open, ended_whole, given_up}
use Rattle.plain_text.proofs.paragraph.hand_paragraph.Goals as goal

pub returns-in_err-open : goal.returns-in_err-open
returns-in_err-open g c =
    let lawful = g.T.ParagraphTaker.lawful in
    let p : Paragraph = record { depth = c.args.depth; text = c.args.text.now } in
    let r = err_from_is_err_and c.from_residual.result c.from_residual.ensures.1 in
    let e = c.in_err-open.ensures in
    let w = refused_open p _ e.answered e.changed (lawful c.«open».new.taker) in
    rw (r.1, r.2) (record { handed = handed_of p _ w; whole = w; kept = e.kept })

pub returns-in-None : goal.returns-in-None
returns-in-None g c =
    let means = g.T.TakerFault.Refusal.means in
    let lawful = g.T.ParagraphTaker.lawful in
    let chained = g.T.ParagraphTaker.chained in
    let p : Paragraph = record { depth = c.args.depth; text = c.args.text.now } in
    let o = c.in_ok-open.ensures in
    let f = c.feed-refused.ensures in
    let e = c.end.ensures in
    let w = ended_whole p c.in_ok-open.«open».number o.answered o.changed (lawful c.«open».new.taker) c.feed-refused.result.0 f.taken f.changed f.lawful (lawful c.feed-refused.new.taker) (sym (ap (via means) c.in-None.is) ∙ f.fault) (told means c.end.result) e.answered e.changed (lawful c.end.new.taker) in
    record { handed = handed_of p _ w; whole = w; kept = chained _ _ _ (chained _ _ _ o.kept f.kept) e.kept }

pub returns-in-Some : goal.returns-in-Some
returns-in-Some g c =
    let means = g.T.TakerFault.Refusal.means in
    let lawful = g.T.ParagraphTaker.lawful in
    let chained = g.T.ParagraphTaker.chained in
    let p : Paragraph = record { depth = c.args.depth; text = c.args.text.now } in
    let o = c.in_ok-open.ensures in
    let f = c.feed-refused.ensures in
    let u = c.give_up.ensures in
    let k = c.in_ok-open.«open».number in
    let w = given_up p k o.answered o.changed (lawful c.«open».new.taker) c.feed-refused.result.0 f.taken f.changed f.lawful (lawful c.feed-refused.new.taker) (means c.in-Some.f) (means c.give_up.result) (sym (ap (via means) c.in-Some.is) ∙ f.fault) (sym (ap (answer (value (g.T.ParagraphTaker.means c.feed-refused.new.taker) (gives_up k))) u.answered)) u.changed (lawful c.give_up.new.taker) in
    record { handed = handed_of p _ w; whole = w; kept = chained _ _ _ (chained _ _ _ o.kept f.kept) u.kept }
