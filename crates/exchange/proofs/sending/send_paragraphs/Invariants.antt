use Rattle.std.proofs.Common.{take}
use Rattle.fault.specs.Answers.{via}
use Rattle.exchange.specs.Mail.{paragraphs_orders}
use Rattle.exchange.specs.Given.{Given}
use Rattle.exchange.proofs.sending.send_paragraphs.Given as goal

abbrev pub invariant-loop-i : goal.invariant-loop-i
invariant-loop-i g l =
    Given (g.T.ParagraphTaker.means l.initial.taker) (g.T.ParagraphTaker.means l.taker) (paragraphs_orders l.mail.text.now 1 (take l.i l.mail.records.now)) (via g.T.TakerFault.Refusal.means l.first)
    × g.T.ParagraphTaker.keeps l.initial.taker l.taker
