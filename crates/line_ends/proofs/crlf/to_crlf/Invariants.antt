use Rattle.std.proofs.Common.{◌≡◌, ◌++◌, drop, vec_items}
use Rattle.line_ends.specs.LineEnds.{crlf_behind, with_crlf}
use Rattle.line_ends.proofs.crlf.to_crlf.Given as goal

abbrev pub invariant-loop-b : goal.invariant-loop-b
invariant-loop-b l = vec_items l.out ++ crlf_behind l.before (drop l.b-index l.text) ≡ with_crlf l.text
