-- Where the code stands in a line, as a state of reading.
use Rattle.std.specs.Prelude.{ℕ, Bool, cond, List, Ok, Err, Result}
use Rattle.fault.specs.declared.cause.Cause.{Cause}
use Rattle.reading.specs.Events.{Event, texts}
use Rattle.reading.specs.Held.{begins_at, signs_at}
use Rattle.reading.specs.Machine.{State, in_marks, in_content, behind_cr, Step, hands, refuses}
use Rattle.reading.specs.Machine.{Content as ReadingContent, held, passed}
use Rattle.reader.specs.declared.text.Text.{Text}
use Rattle.reader.specs.declared.plan.Plan.{Plan}
use Rattle.reader.specs.declared.line.Content.{Content}
use Rattle.reader.specs.declared.line.Content.TheVariants.{Held, Passed}
use Rattle.reader.specs.declared.line.Line.{Line}
use Rattle.reader.specs.declared.line.LineState.{LineState}
use Rattle.reader.specs.declared.line.LineState.TheVariants.{InMarks, InContent, BehindCr}
use Rattle.reader.specs.declared.sign.Sign.{Sign}
use Rattle.reader.specs.declared.sign.Sign.TheVariants.{Signature, Beginning, Other}
use Rattle.reader.specs.Plans.{end_if, bytes_of, events_of}

abbrev pub content_of : Content → ReadingContent
content_of (Held h) = held (bytes_of h.text)
content_of (Passed s) = passed s

abbrev pub state_of : LineState → State
state_of (InMarks o n) = in_marks o n
state_of (InContent l) = in_content l.depth l.continued (content_of l.content)
state_of (BehindCr l) = behind_cr l.depth l.continued (content_of l.content)

-- content by the signature separator, as a pattern tells it: it is that, a beginning of it, or neither
abbrev pub sign_at : List ℕ → Sign
sign_at t = cond (signs_at t) Signature (cond (begins_at t) Beginning Other)

-- what a byte of content comes to: text, and the line then
abbrev pub content_step : Text × Line → Step
content_step p = hands (texts (bytes_of p.0)) (state_of (InContent p.1))

-- what a byte of a line comes to that hands on only text
abbrev pub passing : Result (Text × LineState) Cause → Step
passing (Ok p) = hands (texts (bytes_of p.0)) (state_of p.1)
passing (Err c) = refuses c

-- what a byte comes to: a plan, and where it leads, or a refusal
abbrev pub made_of : Plan × LineState → Step
made_of p = hands (events_of p.0) (state_of p.1)

abbrev pub step_of : Result (Plan × LineState) Cause → Step
step_of (Ok p) = made_of p
step_of (Err c) = refuses c

-- what a finish hands on, by whether an open paragraph is to be ended
abbrev pub ends_of : Result Bool Cause → Result (List Event) Cause
ends_of (Ok x) = Ok (end_if x)
ends_of (Err c) = Err c
