use Rattle.std.proofs.Common.{[], arith}
use Rattle.folding.proofs.Tracking.{start_tracks}
use Rattle.folding.proofs.Widths.{width_le}
use Rattle.composer.proofs.held_line.HeldLine.start.Goals as goal

pub invariant_of-self-2-clause-short : goal.invariant_of-self-2-clause-short
invariant_of-self-2-clause-short c = let short = width_le c.args.depth [] in rw c.clear.ensures (omega arith)

pub invariant_of-self-2-clause-valid : goal.invariant_of-self-2-clause-valid
invariant_of-self-2-clause-valid c = rw c.clear.ensures (∣ (start_tracks c.args.depth c.args.self.now.margins.width).valid ∣₁)
