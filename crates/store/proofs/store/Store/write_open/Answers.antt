use Rattle.std.proofs.Common.{◌<◌, length, vec_items, arith}
use Rattle.store.specs.Meant.{filed}
use Rattle.store.proofs.Filing.{open_tiles}
use Rattle.store.proofs.store.Store.write_open.Goals as goal

pub invariant_of-self-clause-tiles : goal.invariant_of-self-clause-tiles
invariant_of-self-clause-tiles c =
    let s = c.args.self.now in
    let k = s.records.ok.0 in
    let n : s.count < length (vec_items s.records) = omega arith in
    open_tiles (vec_items s.records) (vec_items s.bytes) s.count s.used c.args.depth s.inside c.requires (filed s) n
