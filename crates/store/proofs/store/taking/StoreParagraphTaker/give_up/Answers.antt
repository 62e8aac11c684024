use Rattle.taker.specs.Paragraph.{gives_up}
use Rattle.store.proofs.Asking.{refused_so}
use Rattle.store.proofs.store.taking.StoreParagraphTaker.give_up.Goals as goal

pub returns : goal.returns
returns c =
    let t = refused_so c.args.self.now c.refuse.new.self (gives_up c.args.number) _ _ c.refuse.ensures c.given_up.ensures in
    record { answered = t.told; changed = t.left; kept = t.kept }
