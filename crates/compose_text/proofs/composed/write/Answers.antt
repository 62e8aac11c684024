use Rattle.std.proofs.Common.{not, [], ◌∷◌, Some, None, ap}
use Rattle.fault.specs.Answers.{told}
use Rattle.fault.specs.Kinds.{layer_fault}
use Rattle.orders.specs.Phases.{phased}
use Rattle.history.specs.History.{asked, to_finish, asks}
use Rattle.composer.specs.Composers.{state_of, means_of}
use Rattle.composer.specs.Keeping.{keeps_chained}
use Rattle.composer.specs.Law.{composer_lawful}
use Rattle.plain_text.specs.Paragraphs.{paragraphs_of}
use Rattle.plain_text.proofs.Growing.{grows_on}
use Rattle.compose_text.proofs.Writing.{written}
use Rattle.compose_text.proofs.composed.write.Goals as goal

pub returns-then-is_some-clause-written : goal.returns-then-is_some-clause-written
returns-then-is_some-clause-written g c =
    let h = c.hand_lines-handed.ensures.handed in
    record {
      steps = h.steps;
      so = written (paragraphs_of c.args.depths c.args.text.now) (record { handed = c.hand_lines-handed.result; finish = None }) h.steps h.so (ap not c.if-is_some.ensures);
      grows = h.grows;
    }

pub returns-clause-written : goal.returns-clause-written
returns-clause-written g c =
    let below = g.S.ByteSink.means in
    let a = c.args.composer.now in
    let b = c.hand_lines-handed.new.taker in
    let d = c.finish.new.self in
    let r = told layer_fault c.finish.result in
    let lawful = composer_lawful (below d.below) (state_of d) (phased layer_fault d.phase) d.place (g.S.ByteSink.lawful d.below) in
    let h = c.hand_lines-handed.ensures.handed in
    record {
      steps = asked to_finish r ∷ h.steps;
      so = written (paragraphs_of c.args.depths c.args.text.now) (record { handed = c.hand_lines-handed.result; finish = Some c.finish.result }) h.steps h.so (ap not c.if-is_some.ensures);
      grows = grows_on (means_of below a) (means_of below b) (means_of below d) h.steps (asked to_finish r ∷ []) h.grows (λ s k t. asks t to_finish r c.finish.ensures.answered c.finish.ensures.changed lawful);
    }

pub returns-clause-grown : goal.returns-clause-grown
returns-clause-grown g c = let w = returns-clause-written g c in (w.steps, w.grows)

pub returns-clause-kept : goal.returns-clause-kept
returns-clause-kept g c =
    let below = g.S.ByteSink.means in
    let a = c.args.composer.now.below in
    let b = c.hand_lines-handed.new.taker.below in
    let d = c.finish.new.self.below in
    keeps_chained (below a).foot (below b).foot (below d).foot (g.S.ByteSink.memory a) (g.S.ByteSink.memory b) (g.S.ByteSink.memory d) c.hand_lines-handed.ensures.kept c.finish.ensures.kept
