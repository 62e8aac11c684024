-- What is sent reads back.
use Rattle.std.proofs.Common.{◌≡◌, ℕ, List, [], ◌∷◌, ◌++◌, map, None, Ok, sym, refl, ap, ◌∙◌}
use Rattle.std.specs.List.{AllByRecursion}
use Rattle.std.proofs.lemmas.List.{map-append}
use Rattle.folding.specs.Text.{Text}
use Rattle.folding.specs.WireLine.{crlf, bare_line}
use Rattle.folding.specs.Folded.{pieces}
use Rattle.folding.specs.Reading.{Line, read_line}
use Rattle.folding.proofs.Reading.{line_reads as piece_reads, foldings_read_back}
use Rattle.reading.specs.Lines.{text_of, read_lines}
use Rattle.reading.specs.Paragraphs.{Paragraph, paragraphs, still_open}
use Rattle.reading.specs.Events.{Event, told, told_so_far}
use Rattle.reading.specs.Machine.{at_line, start}
use Rattle.reading.specs.Runs.{run, read}
use Rattle.reading.specs.Sent.{Sent, Sendable, sent_lines, sent_bytes, settled_paragraphs, SentReadsBack}
use Rattle.reading.proofs.Contents.{line}
use Rattle.reading.proofs.Joins.{joined_append, joined_map}
use Rattle.reading.proofs.Telling.{told_ended}
use Rattle.reading.proofs.Lines.{lines_read}
use Rattle.reading.proofs.Cutting.{one_paragraph}
use Rattle.reading.proofs.SentLines.{sent_readable}

-- the bytes of lines
bytes_sent : (ps : List Sent) → text_of (sent_lines ps) ≡ sent_bytes ps
bytes_sent [] = refl
bytes_sent (p ∷ ps) =
    joined_append (λ (l : Text). l ++ crlf) (map (bare_line p.depth) (pieces p.folded)) (sent_lines ps)
    ∙ (λ i. joined_map (λ (l : Text). l ++ crlf) (bare_line p.depth) (pieces p.folded) i ++ bytes_sent ps i)

-- the lines by depth and content
pieces_read : (d : ℕ) (ps : List Text) → read_lines (map (bare_line d) ps) ≡ map (line d) ps
pieces_read d [] = refl
pieces_read d (p ∷ ps) = λ i. piece_reads d p i ∷ pieces_read d ps i

-- the paragraphs of the lines
record SentAs (ps : List Sent) : Type 0 where
  paragraphs_are : paragraphs (read_lines (sent_lines ps)) ≡ settled_paragraphs ps
  none_open : still_open (read_lines (sent_lines ps)) ≡ None

sent_as : (ps : List Sent) → AllByRecursion Sendable ps → SentAs ps
sent_as [] h = record { paragraphs_are = refl; none_open = refl }
sent_as (p ∷ ps) h =
    let q = h.0 in
    let f = p.folded in
    let back = foldings_read_back p.depth q.width p.text f q.folds in
    let rest = read_lines (sent_lines ps) in
    let cut = one_paragraph p.depth f.flowed f.last rest back.flowing back.last back.alone in
    let lines : read_lines (sent_lines (p ∷ ps)) ≡ map (line p.depth) (pieces f) ++ rest =
    map-append read_line (map (bare_line p.depth) (pieces f)) (sent_lines ps) ∙ ap (λ (ls : List Line). ls ++ rest) (pieces_read p.depth (pieces f)) in
    let more = sent_as ps h.1 in
    record {
      paragraphs_are = ap paragraphs lines ∙ cut.first ∙ (λ i. record { depth = p.depth; text = back.text i } ∷ more.paragraphs_are i);
      none_open = ap still_open lines ∙ cut.last ∙ more.none_open;
    }

pub sent_reads_back : SentReadsBack
sent_reads_back ps h =
    let readable = sent_readable ps h in
    let r = lines_read (sent_lines ps) readable in
    let those = sent_as ps h in
    record {
      bytes = bytes_sent ps;
      readable = readable;
      by_lines = those.paragraphs_are;
      so_far = ap (run start) (sym (bytes_sent ps)) ∙ r.so_far
          ∙ (λ i. record { handed = told_so_far (those.none_open i) (those.paragraphs_are i); left = Ok (at_line (those.none_open i)) })
          ∙ ap (λ (es : List Event). record { handed = es; left = Ok start }) (told_ended (settled_paragraphs ps));
      finished = ap read (sym (bytes_sent ps)) ∙ r.finished ∙ ap (λ (qs : List Paragraph). Ok (told qs)) those.paragraphs_are;
    }
