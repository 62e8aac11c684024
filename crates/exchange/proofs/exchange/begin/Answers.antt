use Rattle.fault.specs.Kinds.{layer_fault}
use Rattle.orders.specs.Phases.{phased}
use Rattle.history.specs.History.{begun}
use Rattle.composer.specs.Composers.{state_of}
use Rattle.composer.specs.Law.{composer_lawful}
use Rattle.exchange.proofs.exchange.begin.Goals as goal

pub returns : goal.returns
returns g c =
    let r = c.new.result in
    let law = composer_lawful (g.S.ByteSink.means r.below) (state_of r) (phased layer_fault r.phase) r.place (g.S.ByteSink.lawful r.below) in
    record { begun = begun law c.new.ensures.means; below = c.new.ensures.below }
