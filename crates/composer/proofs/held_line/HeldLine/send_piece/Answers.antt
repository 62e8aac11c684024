use Rattle.std.proofs.Common.{◌-◌, ◌++◌, take, replicate, ap, ◌∙◌, arith}
use Rattle.folding.specs.Text.{Text, space}
use Rattle.folding.specs.WireLine.{wire_line}
use Rattle.composer.proofs.Sends.{sends_same}
use Rattle.composer.proofs.Endings.{piece_parts}
use Rattle.composer.proofs.held_line.HeldLine.send_piece.Goals as goal

pub returns : goal.returns
returns g c =
    let h = c.args.self.now in
    let n = c.min-front.result in
    let parts = piece_parts h c.args.piece n (omega arith) c.requires in
    let line = ap (λ (t : Text). take n t ++ replicate (c.args.piece - n) space) c.deref.ensures.0 in
    sends_same _ _ _ _ _ _ _ (ap (wire_line h.margins.depth) (line ∙ parts)) c.send.ensures
