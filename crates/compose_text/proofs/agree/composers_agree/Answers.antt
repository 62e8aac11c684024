use Rattle.std.proofs.Common.{Bool, sym, ap, ◌∙◌, subst}
use Rattle.fault.specs.declared.fault.Fault.{Fault}
use Rattle.orders.specs.declared.phase.Phase.{Phase}
use Rattle.orders.specs.Alike.{Alike}
use Rattle.layer.specs.Layer.{layer_means}
use Rattle.layer.proofs.Alike.{layer_alike}
use Rattle.history.proofs.Chopping.{chopping_harmless}
use Rattle.composer.specs.Machine.{composer, start}
use Rattle.composer.specs.Composers.{new_means, born, good_start}
use Rattle.compose_text.proofs.agree.composers_agree.Goals as goal

pub returns : goal.returns
returns g c h w x y a b =
    let m = g.X.ByteSink.means c.args.one.now in
    let l = g.Y.ByteSink.means c.args.other.now in
    let ph : Bool → Phase Fault = λ f. born (good_start w f) in
    let same = layer_alike composer m l (g.X.ByteSink.lawful c.args.one.now).sound (g.Y.ByteSink.lawful c.args.other.now).sound h (start w) (ph m.fresh) 0 in
    let alike : Alike (new_means w m) (new_means w l) = subst (λ (p : Phase Fault). Alike (new_means w m) (layer_means composer l (start w) p 0)) (ap ph (h.one ∙ sym h.other)) same in
    chopping_harmless (new_means w m) (new_means w l) alike x y a b
