use Rattle.std.proofs.Common.{List, [], ◌∷◌, ◌++◌, ap}
use Rattle.fault.specs.Answers.{told}
use Rattle.taker.specs.Paragraph.{Order, finishes}
use Rattle.history.specs.History.{to_finish, asks}
use Rattle.exchange.proofs.sending.send_mail.Goals as goal

pub returns : goal.returns
returns g c =
    let x = c.args.taker.now in
    let y = c.send_paragraphs-refused.new.taker in
    let z = c.finish-finish.new.self in
    let r = told g.T.TakerFault.Refusal.means c.finish-finish.result in
    let p = c.send_paragraphs-refused.ensures.given in
    record {
      given = record {
        steps = p.steps;
        grows = λ s h t. asks (p.grows s h t) to_finish r c.finish-finish.ensures.answered c.finish-finish.ensures.changed (g.T.ParagraphTaker.lawful z);
        are = ap (λ (os : List Order). os ++ finishes ∷ []) p.are;
        first = p.first;
      };
      kept = g.T.ParagraphTaker.chained x y z c.send_paragraphs-refused.ensures.kept c.finish-finish.ensures.kept;
    }
