use Rattle.std.proofs.Common.{List, [], ◌∷◌, ◌++◌, sym, ap, ◌∙◌, subst, append_assoc}
use Rattle.fault.specs.Answers.{told}
use Rattle.taker.specs.Paragraph.{Order, ends, finishes}
use Rattle.history.specs.History.{to_end, to_finish, Step, asked, Reached, asks}
use Rattle.exchange.proofs.Givens.{orders_append}
use Rattle.exchange.proofs.exchange.write.Goals as goal

pub returns : goal.returns
returns g c =
    let means = g.T.ParagraphTaker.means in
    let x = c.args.taker.now in
    let y = c.end.new.self in
    let w = c.send_mail.new.taker in
    let e = told g.T.TakerFault.Refusal.means c.end.result in
    let z = told g.T.TakerFault.Refusal.means c.send_mail.result.finish in
    let p = c.send_mail.ensures.given in
    let one : Step = asked (to_end 0) e in
    record {
      wrote = record {
        ended = e;
        mail = p.steps;
        grows = λ s h t. subst (λ (l : List Step). Reached s (asked to_finish z ∷ l) (means w)) (sym (append_assoc p.steps (one ∷ []) h)) (p.grows s (one ∷ h) (asks t (to_end 0) e c.end.ensures.answered c.end.ensures.changed (g.T.ParagraphTaker.lawful y)));
        are = ap (λ (l : List Order). l ++ finishes ∷ []) (orders_append p.steps (one ∷ [])) ∙ ap (λ (l : List Order). ends 0 ∷ l) p.are;
        first = p.first;
      };
      kept = g.T.ParagraphTaker.chained x y w c.end.ensures.kept c.send_mail.ensures.kept;
    }
