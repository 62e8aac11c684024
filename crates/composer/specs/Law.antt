-- The composer keeps the law of paragraph takers, over every sink that keeps its own.
use Rattle.std.specs.Prelude.{◌≡◌, ℕ, Bool, true, false, ◌⊎◌, List, Some, None, Option, nat_le, refl}
use Rattle.std.proofs.Common.{sym, ap, ◌∙◌, inl, inr, arith}
use Rattle.fault.specs.declared.fault.Fault.{Fault}
use Rattle.fault.specs.declared.cause.Cause.{Cause}
use Rattle.fault.specs.declared.cause.Cause.TheVariants.{NoParagraph, BarredByte, OverLimit, NoFolding}
use Rattle.fault.specs.Faults.{leaves}
use Rattle.orders.specs.declared.phase.Phase.{Phase}
use Rattle.sink.specs.Sink.{Sink}
use Rattle.sink.specs.Law.{Lawful as SinkLawful}
use Rattle.taker.specs.Paragraph.{Order, opens, texts, ends, gives_up, finishes}
use Rattle.taker.specs.Law.{more, Lawful}
use Rattle.layer.specs.Layer.{sends, stops, layer_means}
use Rattle.layer.proofs.Sound.{layer_sound}
use Rattle.composer.specs.Machine.{Within, Composing, limit, barred, refuse_if, lacks_folding, text_refusal, refusal, bytes_of, next_state, unless, composer}
use Rattle.composer.specs.ParagraphLayer.{Numbers, layer_numbered, DeafAt, HearingAt, layer_uniform}

-- an order that is accepted leads on
leads : (s : Composing) (o : Order) (bs : List ℕ) (t : Composing) (r : Option Cause) → unless r (sends (bytes_of s o) (next_state s o)) ≡ sends bs t → (r ≡ None) × (next_state s o ≡ t)
leads s o bs t None e = (refl, cc)
leads s o bs t (Some c) e = let z : ◌≡◌ {A = ℕ} 0 1 = cc in absurd (omega arith)

composer_numbers : Numbers composer (λ s. s.opened)
composer_numbers = record { steps = steps; tells = λ s d. refl }
  where
    steps : (s : Composing) (o : Order) (bs : List ℕ) (t : Composing) → composer.move s o ≡ sends bs t → t.opened ≡ more o s.opened
    steps s (opens d) bs t e = ap (λ (x : Composing). x.opened) (sym (leads s (opens d) bs t (refusal s (opens d)) e).1)
    steps s (texts b) bs t e = ap (λ (x : Composing). x.opened) (sym (leads s (texts b) bs t (refusal s (texts b)) e).1)
    steps s (ends i) bs t e = ap (λ (x : Composing). x.opened) (sym (leads s (ends i) bs t (refusal s (ends i)) e).1)
    steps s (gives_up i) bs t e = ap (λ (x : Composing). x.opened) (sym (leads s (gives_up i) bs t (refusal s (gives_up i)) e).1)
    steps s finishes bs t e = ap (λ (x : Composing). x.opened) (sym (leads s finishes bs t (refusal s finishes) e).1)

-- with none open every text byte is refused, leaving all as it was; with one open none is refused so
hard : (x y z : Bool) (s : Composing) (b : ℕ) (c : Cause) → unless (refuse_if x BarredByte (refuse_if y OverLimit (refuse_if z NoFolding None))) (sends (bytes_of s (texts b)) (next_state s (texts b))) ≡ stops c → leaves c ≡ false
hard true y z s b c e = let q : BarredByte ≡ c = cc in ap leaves (sym q)
hard false true z s b c e = let q : OverLimit ≡ c = cc in ap leaves (sym q)
hard false false true s b c e = let q : NoFolding ≡ c = cc in ap leaves (sym q)
hard false false false s b c e = let z : ◌≡◌ {A = ℕ} 0 1 = cc in absurd (omega arith)

uniform_by : (s : Composing) (p : Option Within) → s.paragraph ≡ p → DeafAt composer s ⊎ HearingAt composer s
uniform_by s None q = inl (λ b. (NoParagraph, (ap (λ (p : Option Within). unless (text_refusal s.width b p) (sends (bytes_of s (texts b)) (next_state s (texts b)))) q, refl)))
uniform_by s (Some p) q = inr (λ b c e. hard (barred b) (nat_le limit p.bytes) (lacks_folding s.width p b) s b c (ap (λ (x : Option Within). unless (text_refusal s.width b x) (sends (bytes_of s (texts b)) (next_state s (texts b)))) (sym q) ∙ e))

pub composer_lawful : (m : Sink) (s : Composing) (ph : Phase Fault) (n : ℕ) → SinkLawful m → Lawful (layer_means composer m s ph n)
composer_lawful m s ph n h = record {
  sound = layer_sound composer m s n h.sound ph;
  before = s.opened;
  numbered = layer_numbered composer (λ s. s.opened) composer_numbers m s ph n;
  uniform = layer_uniform composer m s ph n (uniform_by s s.paragraph refl);
}
