-- The settled paragraphs of a history of paragraphs that were handed over.
use Rattle.std.proofs.Common.{◌≡◌, ℕ, ◌≤◌, List, [], ◌∷◌, ◌++◌, map, length, take, Some, None, Option, sym, refl, ap, ◌∙◌, append_assoc, arith}
use Rattle.std.proofs.lemmas.List.{append-nil, take_all, length-drop}
use Rattle.fault.specs.declared.fault.Fault.{Fault}
use Rattle.taker.specs.Mail.{Paragraph}
use Rattle.folding.specs.Text.{Text, settled}
use Rattle.history.specs.History.{Step}
use Rattle.history.specs.Settled.{settled_paragraphs}
use Rattle.plain_text.specs.Handing.{Ended, whole, wholes, Refused, at_open, in_text, at_end, ToRefusal, HandedAll}
use Rattle.history.specs.Settled.{settle}

-- an accepted paragraph is listed
one_listed : (p : Paragraph) (e : Ended) (h : List Step) → settled_paragraphs (whole p e ++ h) ≡ settled_paragraphs h ++ settle p ∷ []
one_listed p e h = ap (λ (t : Text). settled_paragraphs h ++ record { depth = p.depth; text = settled t } ∷ []) (take_all (length p.text) p.text (omega arith))

wholes_listed : (ps : List Paragraph) (es : List Ended) (h : List Step) → length es ≤ length ps → settled_paragraphs (wholes ps es ++ h) ≡ settled_paragraphs h ++ map settle (take (length es) ps)
wholes_listed ps [] h n = sym (append-nil (settled_paragraphs h))
wholes_listed [] (e ∷ es) h n = absurd (omega arith)
wholes_listed (p ∷ ps) (e ∷ es) h n =
    ap settled_paragraphs (append_assoc (wholes ps es) (whole p e) h)
    ∙ wholes_listed ps es (whole p e ++ h) (omega arith)
    ∙ ap (λ (l : List Paragraph). l ++ map settle (take (length es) ps)) (one_listed p e h)
    ∙ append_assoc (settled_paragraphs h) (settle p ∷ []) (map settle (take (length es) ps))

-- a refused one is not
none_listed : {p : Paragraph} {f : Fault} {k : List Step} → Refused p f k → (h : List Step) → settled_paragraphs (k ++ h) ≡ settled_paragraphs h
none_listed at_open h = refl
none_listed (in_text n k g) h = refl
none_listed (at_end n) h = refl

to_refusal : (ps : List Paragraph) (es : List Ended) (refused : Option (ℕ × Fault)) (k : List Step) → ToRefusal ps es refused k → settled_paragraphs k ≡ map settle (take (length es) ps)
to_refusal ps es None k so =
    ap settled_paragraphs (so.1 ∙ sym (append-nil (wholes ps es))) ∙ wholes_listed ps es [] (omega arith)
to_refusal ps es (Some r) k so =
    let n : length es ≤ length ps = omega (arith, length-drop (length es) ps, ap length so.there) in
    ap settled_paragraphs so.steps ∙ none_listed so.refused (wholes ps es) ∙ ap settled_paragraphs (sym (append-nil (wholes ps es))) ∙ wholes_listed ps es [] n

pub handed_settled : (ps : List Paragraph) (paragraphs lines : ℕ) (refused : Option (ℕ × Fault)) (k : List Step) → HandedAll ps paragraphs lines refused k → settled_paragraphs k ≡ map settle (take paragraphs ps)
handed_settled ps paragraphs lines refused k h = to_refusal ps h.ended refused k h.so ∙ ap (λ (n : ℕ). map settle (take n ps)) (sym h.count)
