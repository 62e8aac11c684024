-- The lines of what is sent can be read.
use Rattle.std.proofs.Common.{◌≡◌, ℕ, ◌≤◌, Bool, true, false, List, [], ◌∷◌, ◌++◌, map, replicate, sym, refl, ap, ◌∙◌, subst, ⊎_elim}
use Rattle.std.specs.List.{AllByRecursion}
use Rattle.std.proofs.ByRecursion.{All-append}
use Rattle.taker.specs.Paragraph.{barred, deepest}
use Rattle.folding.specs.Text.{Text, space, signature, trimmed, settled}
use Rattle.folding.specs.WireLine.{quote_mark, stuffed, stuffing, bare_line}
use Rattle.folding.specs.Folded.{pieces}
use Rattle.folding.specs.Reading.{Line}
use Rattle.folding.proofs.Spaces.{trimmed_rest, settled_cases}
use Rattle.folding.proofs.Reading.{line_reads as piece_reads, foldings_read_back}
use Rattle.reading.specs.Lines.{Clean, Readable}
use Rattle.reading.specs.Sent.{Sent, Sendable, sent_lines}
use Rattle.reading.proofs.Marks.{marks_clean}
use Rattle.reading.proofs.Joins.{all_parts}
use Rattle.reading.proofs.Cleaning.{clean_append, clean_front}

-- a settled text has no other bytes than the text
settled_clean : (t : Text) → Clean t → Clean (settled t)
settled_clean t h = ⊎_elim
    (λ (e : t ≡ signature). subst Clean (e ∙ sym (ap settled e)) h)
    (λ (e : settled t ≡ trimmed t). let r = trimmed_rest t in
    subst Clean (sym e) (clean_front (trimmed t) (replicate r.0 space) (subst Clean r.1 h)))
    (settled_cases t)

-- the lines of its pieces
stuffing_clean : (x : Bool) → Clean (stuffing x)
stuffing_clean true = (refl, tt)
stuffing_clean false = tt

line_readable : (d : ℕ) (p : Text) → d ≤ deepest → Clean p → Readable (bare_line d p)
line_readable d p s h = record {
  clean = clean_append (replicate d quote_mark) (stuffing (stuffed d p) ++ p) (marks_clean d)
      (clean_append (stuffing (stuffed d p)) p (stuffing_clean (stuffed d p)) h);
  shallow = subst (λ (l : Line). l.depth ≤ deepest) (sym (piece_reads d p)) s;
}

lines_readable : (d : ℕ) (ps : List Text) → d ≤ deepest → AllByRecursion Clean ps → AllByRecursion Readable (map (bare_line d) ps)
lines_readable d [] s h = tt
lines_readable d (p ∷ ps) s h = (line_readable d p s h.0, lines_readable d ps s h.1)

pub sent_readable : (ps : List Sent) → AllByRecursion Sendable ps → AllByRecursion Readable (sent_lines ps)
sent_readable [] h = tt
sent_readable (p ∷ ps) h =
    let q = h.0 in
    let back = foldings_read_back p.depth q.width p.text p.folded q.folds in
    let clean = all_parts (λ b. barred b ≡ false) (pieces p.folded) (subst Clean (sym back.text) (settled_clean p.text q.clean)) in
    All-append Readable (map (bare_line p.depth) (pieces p.folded)) (sent_lines ps) (lines_readable p.depth (pieces p.folded) q.shallow clean) (sent_readable ps h.1)
