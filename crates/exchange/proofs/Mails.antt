-- The orders of paragraphs, one more at a time.
use Rattle.std.proofs.Common.{◌≡◌, ℕ, suc, ◌+◌, ◌<◌, min, List, [], ◌∷◌, ◌++◌, length, get_or, take, sym, ap, ◌∙◌, append_assoc, append-nil, arith, length-take}
use Rattle.std.proofs.lemmas.List.{take_more}
use Rattle.fault.specs.Faults.{most}
use Rattle.taker.specs.Paragraph.{Order}
use Rattle.store.specs.declared.record.Record.{Record}
use Rattle.exchange.specs.Mail.{paragraph_orders, paragraphs_orders}

paragraphs_push : (text : List ℕ) (rs : List Record) (n : ℕ) (r : Record) → paragraphs_orders text n (rs ++ r ∷ []) ≡ paragraphs_orders text n rs ++ paragraph_orders text r (min (n + length rs) most)
paragraphs_push text [] n r = append-nil (paragraph_orders text r (min n most)) ∙ (let same : min n most ≡ min (n + 0) most = omega arith in ap (paragraph_orders text r) same)
paragraphs_push text (q ∷ rs) n r =
    let same : min (n + 1 + length rs) most ≡ min (n + suc (length rs)) most = omega arith in
    ap (λ (l : List Order). paragraph_orders text q (min n most) ++ l) (paragraphs_push text rs (n + 1) r ∙ ap (λ (k : ℕ). paragraphs_orders text (n + 1) rs ++ paragraph_orders text r k) same)
    ∙ sym (append_assoc (paragraph_orders text q (min n most)) (paragraphs_orders text (n + 1) rs) (paragraph_orders text r (min (n + suc (length rs)) most)))

pub paragraphs_more : (text : List ℕ) (rs : List Record) (i k : ℕ) (d : Record) → i < length rs → k ≡ min (i + 1) most → paragraphs_orders text 1 (take (i + 1) rs) ≡ paragraphs_orders text 1 (take i rs) ++ paragraph_orders text (get_or rs i d) k
paragraphs_more text rs i k d h e =
    let long = length-take i rs in
    let same : min (1 + length (take i rs)) most ≡ k = omega arith in
    ap (paragraphs_orders text 1) (take_more rs i d h)
    ∙ paragraphs_push text (take i rs) 1 (get_or rs i d)
    ∙ ap (λ (j : ℕ). paragraphs_orders text 1 (take i rs) ++ paragraph_orders text (get_or rs i d) j) same
