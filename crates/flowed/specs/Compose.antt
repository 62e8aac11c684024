-- What flowed compose makes of a text.
use Rattle.std.specs.Prelude.{◌≡◌, ℕ, Bool, false, List, Vec}
use Rattle.std.specs.declared.alloc.Global.{Global}
use Rattle.ends.specs.Buffers.{taken}
use Rattle.line_ends.specs.LineEnds.{widest}
use Rattle.plain_text.specs.declared.line.Depths.{Depths}
use Rattle.plain_text.specs.Paragraphs.{paragraphs_of}
use Rattle.compose_text.specs.declared.composed.Composed.{Composed}
use Rattle.compose_text.specs.Composed.{pile, ComposedAs}
use Rattle.flowed.specs.declared.mail_report.MailReport.{MailReport}
use Rattle.flowed.specs.Mail.{unfinished, for_memory}

abbrev pub wire_of : Composed → List ℕ
wire_of c = taken c.wire

-- the paragraphs of the text were composed into the memory v
abbrev pub ComposedIn : Vec ℕ Global → Bool → ℕ → Depths → List ℕ → Composed → Type 0
ComposedIn v dot width ds t c = ComposedAs width (pile dot v) (paragraphs_of ds t) c.outcome (wire_of c)

-- into memory that was not wanting, and this is reported of it
pub record Mailed (dot : Bool) (width : ℕ) (ds : Depths) (t : List ℕ) (c : Composed) (r : MailReport) : Type 0 where
  pub memory : Vec ℕ Global
  pub composed : ComposedIn memory dot width ds t c
  pub enough : for_memory r.unfinished ≡ false
  pub paragraphs : r.paragraphs ≡ c.outcome.handed.paragraphs
  pub lines : r.lines ≡ c.outcome.handed.lines
  pub bytes : r.bytes ≡ c.wire.len
  pub widest : r.widest ≡ widest 0 0 (wire_of c)
  pub unfinished : r.unfinished ≡ unfinished c.outcome
