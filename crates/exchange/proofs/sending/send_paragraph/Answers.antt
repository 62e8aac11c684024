use Rattle.std.proofs.Common.{◌≡◌, ℕ, List, [], ◌∷◌, ◌++◌, Option, sym, ap, ◌∙◌, subst, ap₂}
use Rattle.fault.specs.declared.fault.Fault.{Fault}
use Rattle.fault.specs.Answers.{via, told, or_else}
use Rattle.taker.specs.Paragraph.{opens, ends, text_orders}
use Rattle.history.specs.History.{to_open, to_end}
use Rattle.exchange.specs.Mail.{part_of, paragraph_orders}
use Rattle.exchange.specs.Given.{refusal_in, Given}
use Rattle.exchange.proofs.Givens.{given_then, given_asked}
use Rattle.exchange.proofs.Pieces.{via_first, via_err}
use Rattle.exchange.proofs.sending.send_paragraph.Goals as goal

pub returns : goal.returns
returns g c =
    let means = g.T.ParagraphTaker.means in
    let tells = g.T.TakerFault.Refusal.means in
    let lawful = g.T.ParagraphTaker.lawful in
    let x = c.args.taker.now in
    let y = c.open-opened.new.self in
    let z = c.feed_pieces-fed.new.taker in
    let w = c.end-ended.new.self in
    let d = c.args.paragraph.depth in
    let n = c.args.number in
    let text = part_of c.args.mail.text.now c.args.paragraph.start c.args.paragraph.length in
    let o = told tells c.open-opened.result in
    let f = via tells c.feed_pieces-fed.result in
    let e = told tells c.end-ended.result in
    let first = given_asked (means x) (means y) (to_open d) o c.open-opened.ensures.answered c.open-opened.ensures.changed (lawful y) in
    let fed = subst (λ (l : List ℕ). Given (means y) (means z) (text_orders l) f) c.text_of.ensures c.feed_pieces-fed.ensures.given in
    let last = given_asked (means z) (means w) (to_end n) e c.end-ended.ensures.answered c.end-ended.ensures.changed (lawful w) in
    let two = given_then (means x) (means y) (means z) (opens d ∷ []) (text_orders text) (refusal_in o) f first fed in
    let all = given_then (means x) (means z) (means w) ((opens d ∷ []) ++ text_orders text) (ends n ∷ []) (or_else (refusal_in o) f) (refusal_in e) two last in
    let v : via tells c.or-2.result ≡ or_else (or_else (refusal_in o) f) (refusal_in e) =
    via_first tells c.or.result c.err-2.result _ c.or-2.ensures
    ∙ ap₂ or_else
    (via_first tells c.err.result c.feed_pieces-fed.result _ c.or.ensures ∙ ap (λ (r : Option Fault). or_else r f) (ap (via tells) c.err.ensures.value ∙ via_err tells c.open-opened.result))
    (ap (via tells) c.err-2.ensures.value ∙ via_err tells c.end-ended.result) in
    record {
      given = subst (λ (r : Option Fault). Given (means x) (means w) (paragraph_orders c.args.mail.text.now c.args.paragraph n) r) (sym v) all;
      kept = g.T.ParagraphTaker.chained x z w (g.T.ParagraphTaker.chained x y z c.open-opened.ensures.kept c.feed_pieces-fed.ensures.kept) c.end-ended.ensures.kept;
    }
