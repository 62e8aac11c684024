-- Different paragraphs are told by different events, and sent as different bytes.
use Rattle.std.proofs.Common.{◌≡◌, ℕ, List, [], ◌∷◌, ◌++◌, sym, refl, ap, ◌∙◌, arith}
use Rattle.folding.specs.Text.{Text}
use Rattle.reading.specs.Paragraphs.{Paragraph}
use Rattle.reading.specs.Events.{Event, ended, texts, told}
use Rattle.reading.specs.Runs.{read}
use Rattle.reading.specs.Sent.{settled_paragraphs, SentApart}
use Rattle.reading.proofs.Constructors.{same_ok}
use Rattle.reading.proofs.SentBack.{sent_reads_back}

texts_apart : (t u : Text) (es fs : List Event) → (texts t ++ ended ∷ []) ++ es ≡ (texts u ++ ended ∷ []) ++ fs → (t ≡ u) × (es ≡ fs)
texts_apart [] [] es fs e = (refl, cc)
texts_apart [] (b ∷ u) es fs e = let z : ◌≡◌ {A = ℕ} 0 1 = cc in absurd (omega arith)
texts_apart (a ∷ t) [] es fs e = let z : ◌≡◌ {A = ℕ} 0 1 = cc in absurd (omega arith)
texts_apart (a ∷ t) (b ∷ u) es fs e =
    let same : a ≡ b = cc in
    let rest = texts_apart t u es fs (cc) in
    ((λ i. same i ∷ rest.0 i), rest.1)

pub told_apart : (ps qs : List Paragraph) → told ps ≡ told qs → ps ≡ qs
told_apart [] [] e = refl
told_apart [] (q ∷ qs) e = let z : ◌≡◌ {A = ℕ} 0 1 = cc in absurd (omega arith)
told_apart (p ∷ ps) [] e = let z : ◌≡◌ {A = ℕ} 0 1 = cc in absurd (omega arith)
told_apart (p ∷ ps) (q ∷ qs) e =
    let deep : p.depth ≡ q.depth = cc in
    let rest = texts_apart p.text q.text (told ps) (told qs) (cc) in
    let more = told_apart ps qs rest.1 in
    λ i. record { depth = deep i; text = rest.0 i } ∷ more i

pub sent_apart : SentApart
sent_apart ps qs h k e =
    told_apart (settled_paragraphs ps) (settled_paragraphs qs)
    (same_ok (sym (sent_reads_back ps h).finished ∙ ap read e ∙ (sent_reads_back qs k).finished))
