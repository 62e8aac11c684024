use Rattle.std.proofs.Common.{◌≡◌, ℕ, ◌+◌, min, vec_items, sym, ap, ◌∙◌}
use Rattle.fault.specs.Faults.{most}
use Rattle.store.specs.Events.{in_use}
use Rattle.store.specs.Meant.{filed}
use Rattle.store.proofs.Footing.{in_use_by, foot_long}
use Rattle.store.proofs.store.Store.taken.Goals as goal

pub returns : goal.returns
returns c =
    let s = c.args.self.now in
    let l = foot_long (vec_items s.records) (vec_items s.bytes) s.count s.inside s.used (filed s) in
    let o : s.count + c.from.result ≡ in_use s.count s.inside = ap (λ (n : ℕ). s.count + n) c.from.ensures ∙ in_use_by s.count s.inside in
    c.capped.ensures ∙ ap (λ (n : ℕ). min n most) (ap (λ (n : ℕ). s.used + s.count + n) o ∙ sym l)
