use Rattle.std.proofs.Common.{refl, rules}
use Rattle.reader.proofs.Delivering.{text_hands}
use Rattle.reader.proofs.delivery.Delivery.text.Goals as goal

pub returns-in_err-from_below : goal.returns-in_err-from_below
returns-in_err-from_below g c =
    let f = c.feed-fault.ensures in
    record { handed = text_hands _ _ _ _ c.args.bytes.now _ (search rules) f.changed (refl {a = c.args.self.now.number}); kept = f.kept }

pub returns : goal.returns
returns g c =
    let f = c.feed-fault.ensures in
    record { handed = text_hands _ _ _ _ c.args.bytes.now _ (search rules) f.changed (refl {a = c.args.self.now.number}); kept = f.kept }
