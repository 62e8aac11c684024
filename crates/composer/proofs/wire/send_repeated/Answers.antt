use Rattle.std.proofs.Common.{◌≡◌, ℕ, ◌+◌, ◌-◌, List, [], ◌∷◌, ◌++◌, replicate, ap, ◌∙◌, arith}
use Rattle.std.proofs.lemmas.Result.{err_from_is_err_and}
use Rattle.std.proofs.lemmas.List.{replicate_more, replicate-append-replicate}
use Rattle.composer.proofs.Sends.{sends_more, sends_stopped, sends_same}
use Rattle.composer.proofs.wire.send_repeated.Goals as goal

pub returns-in_err-send_byte : goal.returns-in_err-send_byte
returns-in_err-send_byte g c =
    let p = err_from_is_err_and c.from_residual.result c.from_residual.ensures.1 in
    let b = c.args.b in
    let i = c.loop.counter in
    let left = replicate (c.args.times - (i + 1)) b in
    let all : i + 1 + (c.args.times - (i + 1)) ≡ c.args.times = omega arith in
    let whole : (replicate i b ++ b ∷ []) ++ left ≡ replicate c.args.times b =
    ap (λ (l : List ℕ). l ++ left) (replicate_more i b) ∙ replicate-append-replicate (i + 1) (c.args.times - (i + 1)) b
    ∙ ap (λ (n : ℕ). replicate n b) all in
    rw (p.1, p.2) (sends_same _ _ _ _ _ _ _ whole (sends_stopped _ _ _ _ _ _ left (sends_more _ _ _ _ _ _ _ _ _ c.loop.invariant c.in_err-send_byte.ensures)))

pub loop-preserved : goal.loop-preserved
loop-preserved g c =
    let b = c.args.b in
    let i = c.loop.counter in
    sends_same _ _ _ _ _ _ _ (replicate_more i b) (sends_more _ _ _ _ _ _ _ _ _ c.loop.invariant c.in_ok-send_byte.ensures)
