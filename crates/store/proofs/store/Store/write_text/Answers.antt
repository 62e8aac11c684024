use Rattle.std.proofs.Common.{◌≡◌, ◌+◌, ◌≤◌, Bool, vec_items, vec_len, ap, subst, arith, rules}
use Rattle.std.proofs.lemmas.List.{get_or_read}
use Rattle.store.specs.declared.record.Record.{Record}
use Rattle.store.specs.Events.{in_use}
use Rattle.store.specs.Meant.{filed}
use Rattle.store.specs.Foot.{nth, blank}
use Rattle.store.proofs.Filing.{open_ends, text_tiles}
use Rattle.store.proofs.store.Store.write_text.Goals as goal

pub overflow_add-index_mut : goal.overflow_add-index_mut
overflow_add-index_mut c =
    let s = c.args.self.now in
    let xs = vec_items s.records in
    let k = s.records.ok.0 in
    let f : s.count + 1 ≤ vec_len s.records = subst (λ (i : Bool). in_use s.count i ≤ vec_len s.records) c.requires s.few in
    let q : c.index_mut-2.result.now ≡ nth xs s.count = get_or_read xs s.count c.index_mut-2.result.now (omega arith) c.index_mut-2.ensures.value blank in
    let e = open_ends xs (vec_items s.bytes) s.count s.used s.inside c.requires (filed s) in
    let l = ap (λ (r : Record). r.length) q in
    search rules

pub invariant_of-self : goal.invariant_of-self
invariant_of-self c =
    let s = c.args.self.now in
    let xs = vec_items s.records in
    let k = s.records.ok.0 in
    let f : s.count + 1 ≤ vec_len s.records = subst (λ (i : Bool). in_use s.count i ≤ vec_len s.records) c.requires s.few in
    let q : c.index_mut-2.result.now ≡ nth xs s.count = get_or_read xs s.count c.index_mut-2.result.now (omega arith) c.index_mut-2.ensures.value blank in
    record {
      few = s.few;
      numbered = s.numbered;
      tiles = text_tiles xs (vec_items s.bytes) s.count s.used s.inside c.requires (filed s) c.index_mut-2.result.now q;
      room = omega arith;
      named = s.named;
    }
