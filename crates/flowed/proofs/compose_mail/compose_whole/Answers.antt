use Rattle.std.proofs.Common.{◌≡◌, length, vec_items, sym, ap, ◌∙◌, arith}
use Rattle.std.proofs.lemmas.List.{length-take-le}
use Rattle.ends.specs.Buffers.{taken}
use Rattle.line_ends.specs.LineEnds.{widest}
use Rattle.flowed.proofs.compose_mail.compose_whole.Goals as goal

pub returns-then-not-lacks_memory : goal.returns-then-not-lacks_memory
returns-then-not-lacks_memory c =
    let w = c.compose_into-composed.result.wire in
    let size = w.memory.ok.0 in
    let in_it = w.within in
    let report = c.new-report.ensures in
    let wire = c.bytes-wire.ensures in
    let long : length (taken w) ≡ w.len = length-take-le w.len (vec_items w.memory) (omega arith) in
    record {
      failed = tt;
      mailed = record {
        memory = c.in_ok-memory.memory;
        composed = c.compose_into-composed.ensures;
        enough = sym c.if-not-lacks_memory.ensures;
        paragraphs = report.paragraphs;
        lines = report.lines;
        bytes = report.bytes ∙ ap length wire ∙ long;
        widest = report.widest ∙ ap (widest 0 0) wire;
        unfinished = report.unfinished;
      };
    }
