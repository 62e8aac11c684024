use Rattle.std.proofs.Common.{arith}
use Rattle.std.proofs.lemmas.List.{take_more_set}
use Rattle.reader.proofs.text.Text.with.Goals as goal

pub returns : goal.returns
returns c =
    let t = c.args.self in
    let s = t.size in
    take_more_set t.bytes t.len c.args.b (omega arith)
