use Rattle.std.proofs.Common.{◌≡◌, List, ◌++◌, get_or, take, Option, sym, subst, take_all}
use Rattle.fault.specs.declared.fault.Fault.{Fault}
use Rattle.fault.specs.Answers.{via, or_else}
use Rattle.taker.specs.Paragraph.{Order}
use Rattle.store.specs.declared.record.Record.{Record}
use Rattle.exchange.specs.Mail.{paragraph_orders, paragraphs_orders}
use Rattle.exchange.specs.Given.{Given}
use Rattle.exchange.proofs.Givens.{given_then}
use Rattle.exchange.proofs.Pieces.{via_first}
use Rattle.exchange.proofs.Mails.{paragraphs_more}
use Rattle.exchange.proofs.sending.send_paragraphs.Goals as goal

nowhere : Record
nowhere = record { depth = 0; start = 0; length = 0 }

pub loop-i-preserved : goal.loop-i-preserved
unfolding nowhere
loop-i-preserved g c =
    let means = g.T.ParagraphTaker.means in
    let tells = g.T.TakerFault.Refusal.means in
    let a = c.args.taker.now in
    let b = c.loop-i.taker in
    let d = c.send_paragraph-refused.new.taker in
    let rs = c.args.mail.records.now in
    let text = c.args.mail.text.now in
    let i = c.loop-i.i in
    let before = via tells c.loop-i.first in
    let v = via tells c.send_paragraph-refused.result in
    let one = c.send_paragraph-refused.ensures in
    let front = paragraphs_orders text 1 (take i rs) in
    let last = paragraph_orders text (get_or rs i nowhere) c.capped.result in
    let both = given_then (means a) (means b) (means d) front last before v c.loop-i.invariant.0 one.given in
    let orders = paragraphs_more text rs i c.capped.result nowhere c.loop-i-test.true c.capped.ensures in
    let first : via tells c.or-first.result ≡ or_else before v = via_first tells c.loop-i.first c.send_paragraph-refused.result _ c.or-first.ensures in
    (subst (λ (os : List Order). Given (means a) (means d) os (via tells c.or-first.result)) (sym orders) (subst (λ (x : Option Fault). Given (means a) (means d) (front ++ last) x) (sym first) both), g.T.ParagraphTaker.chained a b d c.loop-i.invariant.1 one.kept)

pub returns : goal.returns
returns g c =
    let means = g.T.ParagraphTaker.means in
    let all = take_all c.loop-i.i c.args.mail.records.now c.loop-i-test.false in
    record {
      given = subst (λ (rs : List Record). Given (means c.args.taker.now) (means c.loop-i.taker) (paragraphs_orders c.args.mail.text.now 1 rs) (via g.T.TakerFault.Refusal.means c.loop-i.first)) all c.loop-i.invariant.0;
      kept = c.loop-i.invariant.1;
    }
