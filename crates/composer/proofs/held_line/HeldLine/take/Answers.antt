use Rattle.composer.proofs.Taking.{space_taken}
use Rattle.composer.proofs.held_line.HeldLine.take.Goals as goal

pub returns-then-b-eq32 : goal.returns-then-b-eq32
returns-then-b-eq32 g c =
    let s = c.count_space.ensures in
    space_taken c.args.self.now c.count_space.new.self c.args.b _ _ c.if-b-eq32.true s.held s.margins s.lines
