use Rattle.std.proofs.Common.{ℕ, ◌+◌, ◌<◌, ◌∷◌, length, take, drop, sym, ap, ◌∙◌, rules, tests, arith}
use Rattle.std.proofs.lemmas.List.{take_all, drop_all}
use Rattle.plain_text.specs.Lines.{cut, before_feed}
use Rattle.plain_text.proofs.Firsts.{cut_first, feed_at, no_feed}
use Rattle.plain_text.proofs.cut.split_line.Goals as goal

pub returns-in-Some : goal.returns-in-Some
returns-in-Some c =
    let t = c.args.text.now in
    let some : 0 < length t = search (rules, tests) in
    let n = sym (feed_at t c.in-Some.feed (sym c.find_feed.ensures ∙ c.in-Some.is)) in
    let line = c.split_at.ensures.front ∙ ap (λ (k : ℕ). take (k + 1) t) n in
    let rest = c.split_at.ensures.back ∙ ap (λ (k : ℕ). drop (k + 1) t) n in
    record { first = (line, rest); cut = cut_first t some ∙ (λ j. sym line j ∷ cut (sym rest j)) }

pub returns-in-None : goal.returns-in-None
returns-in-None c =
    let t = c.args.text.now in
    let some : 0 < length t = search (rules, tests) in
    let n = no_feed t (sym c.find_feed.ensures ∙ c.in-None.is) in
    let line = sym (take_all (before_feed t + 1) t (omega arith)) in
    let rest = sym (drop_all (before_feed t + 1) t (omega arith)) in
    record { first = (line, rest); cut = cut_first t some ∙ (λ j. sym line j ∷ cut (sym rest j)) }
