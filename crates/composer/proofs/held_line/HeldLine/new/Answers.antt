use Rattle.std.proofs.Common.{[], arith}
use Rattle.folding.proofs.Tracking.{start_tracks}
use Rattle.folding.proofs.Widths.{width_le}
use Rattle.composer.proofs.held_line.HeldLine.new.Goals as goal

pub invariant_of-result-2-clause-short : goal.invariant_of-result-2-clause-short
invariant_of-result-2-clause-short c = let short = width_le 0 [] in rw c.new.ensures (omega arith)

pub invariant_of-result-2-clause-valid : goal.invariant_of-result-2-clause-valid
invariant_of-result-2-clause-valid c = rw c.new.ensures (∣ (start_tracks 0 c.args.width).valid ∣₁)
