use Rattle.std.proofs.Common.{◌≡◌, List, [], sym, ap, ◌∙◌, subst, append-nil}
use Rattle.fault.specs.Kinds.{layer_fault}
use Rattle.orders.specs.Phases.{phased}
use Rattle.history.specs.History.{Step, Reached, begun}
use Rattle.ends.specs.Buffers.{taken}
use Rattle.composer.specs.Composers.{state_of, means_of, new_means}
use Rattle.composer.specs.Law.{composer_lawful}
use Rattle.compose_text.specs.Composed.{FootTold}
use Rattle.compose_text.proofs.Writing.{composed_so}
use Rattle.compose_text.proofs.composed.compose.Goals as goal

pub returns-clause-text : goal.returns-clause-text
returns-clause-text g c =
    let below = g.S.ByteSink.means in
    let m = g.S.Pile.over c.args.memory in
    let w = c.args.width in
    let a = c.new-composer.result in
    let d = means_of below c.write-outcome.new.composer in
    let wire = c.into_buffer-wire.result in
    let start : means_of below a ≡ new_means w m = c.new-composer.ensures.means ∙ ap (new_means w) c.over.ensures.means in
    let foot : taken wire ≡ d.foot = ap taken (c.into_buffer-wire.ensures ∙ ap g.S.Pile.buffer c.into_below.ensures) ∙ g.met.S.Pile.foot c.write-outcome.new.composer.below in
    let lawful = composer_lawful (below a.below) (state_of a) (phased layer_fault a.phase) a.place (g.S.ByteSink.lawful a.below) in
    let grown = c.write-outcome.ensures.written in
    record {
      steps = grown.steps;
      written = grown.so;
      left = d;
      reached = subst (λ (k : List Step). Reached (new_means w m) k d) (append-nil grown.steps) (grown.grows (new_means w m) [] (begun lawful start));
      foot = sym foot;
      told = subst (FootTold c.write-outcome.result.finish) (sym foot) c.write-outcome.ensures.told;
    }

pub returns-clause-wire : goal.returns-clause-wire
returns-clause-wire g c = composed_so (returns-clause-text g c)
