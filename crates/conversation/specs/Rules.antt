-- What the rules state for a list of orders to a composer of width w over a sink that meant m at the start: which orders are
-- accepted, what each is answered, and what the end took. Texts are folded whole, and what goes down is looked at from the start.
use Rattle.std.specs.Prelude.{◌≡◌, ℕ, Bool, true, false, cond, not, List, [], ◌∷◌, ◌++◌, length, is_some, Some, None, Option, Result, ◌==◌, nat_le, nat_lt}
use Rattle.fault.specs.declared.fault.Fault.{Fault}
use Rattle.fault.specs.declared.cause.Cause.{Cause}
use Rattle.fault.specs.declared.cause.Cause.TheVariants.{ParagraphOpen, NoParagraph, TooDeep, ParagraphLeft, AfterClose, AfterShut, BarredByte, OverLimit, NoFolding, GivenUp, WrongNumber, BadStart}
use Rattle.fault.specs.declared.layer.Layer.TheVariants.{Composer}
use Rattle.fault.specs.Faults.{own, leaves}
use Rattle.fault.specs.Answers.{raised, or_else, answer}
use Rattle.orders.specs.Steps.{shown}
use Rattle.orders.specs.Lists.{reach}
use Rattle.sink.specs.Sink.{Sink, down}
use Rattle.taker.specs.Paragraph.{Order, opens, texts, ends, gives_up, finishes, closes, barred, deepest, Taker}
use Rattle.taker.specs.Mail.{Paragraph}
use Rattle.folding.specs.Text.{settled}
use Rattle.folding.specs.Folding.{folding}
use Rattle.history.specs.History.{Step}
use Rattle.history.specs.Orders.{Reply, orders, replies, accepted}
use Rattle.history.specs.Stated.{reply_on, tally}
use Rattle.composer.specs.Machine.{limit, refuse_if}
use Rattle.composer.specs.Composers.{good_start}
use Rattle.conversation.specs.Mail.{Mail, nothing, lines_of, bytes_for, place_for, number, mail_with}

-- the first cause that the composer itself refuses an order with, by the mail so far
abbrev pub open_cause : ℕ → ℕ → Option Paragraph → Option Cause
open_cause d n (Some p) = Some ParagraphOpen
open_cause d n None = refuse_if (nat_lt deepest d) TooDeep (refuse_if (nat_le limit n) OverLimit None)

-- a byte is refused where the text through it, settled, has no folding
abbrev pub text_cause : ℕ → ℕ → Option Paragraph → Option Cause
text_cause w b None = Some NoParagraph
text_cause w b (Some p) =
    refuse_if (barred b) BarredByte
    (refuse_if (nat_le limit (length p.text)) OverLimit
    (refuse_if (not (is_some (folding p.depth w (settled (p.text ++ b ∷ []))))) NoFolding None))

abbrev pub end_cause : ℕ → ℕ → Option Paragraph → Option Cause → Option Cause
end_cause i n None last = Some NoParagraph
end_cause i n (Some p) last = refuse_if (not (i == n)) WrongNumber last

abbrev pub finish_cause : Option Paragraph → Option Cause
finish_cause None = None
finish_cause (Some p) = Some ParagraphLeft

abbrev pub own_cause : ℕ → Mail → Order → Option Cause
own_cause w m (opens d) = open_cause d (length m.ended) m.begun
own_cause w m (texts b) = text_cause w b m.begun
own_cause w m (ends i) = end_cause i (number m) m.begun None
own_cause w m (gives_up i) = end_cause i (number m) m.begun (Some GivenUp)
own_cause w m finishes = finish_cause m.begun

-- how a composer fares: it goes on, has finished, or was shut by a fault; then this mail had gone down for the order that shut it,
-- and a close behind it if the flag says so
pub data Course : Type 0 where
  goes : Course
  finished : Course
  shut : Fault → Mail → Bool → Course

-- the mail that was accepted, and how the composer fares
pub record SoFar : Type 0 where
  pub mail : Mail
  pub course : Course

-- it is born shut with a wrong width or over a sink that is not fresh
abbrev pub at_first : Bool → SoFar
at_first true = record { mail = nothing; course = goes }
at_first false = record { mail = nothing; course = shut (own BadStart Composer 0) nothing false }

abbrev pub refused_own : Option Cause → ℕ → Option Fault
refused_own None n = None
refused_own (Some c) n = Some (own c Composer n)

abbrev pub fares : Bool → Course
fares true = finished
fares false = goes

abbrev pub open_lines : ℕ → Option Paragraph → ℕ
open_lines w None = 0
open_lines w (Some p) = length (lines_of w p)

module _ (w : ℕ) (m : Sink) where
  -- what the end took of a mail's bytes, with a close behind them or not: the longest permitted beginning of what they add; and the
  -- first fault of the permit, the stages below and the permit to close, one level higher
  abbrev pub foot_by : Mail → Bool → List ℕ
  foot_by mail c = (reach m (down (bytes_for w mail) c) c).list

  abbrev pub fault_by : Mail → Bool → Option Fault
  fault_by mail c = raised (reach m (down (bytes_for w mail) c) c).fault

  abbrev pub verdict_in : Course → Mail → Order → Option Fault
  verdict_in goes mail o = or_else (refused_own (own_cause w mail o) (place_for mail)) (fault_by (mail_with mail o) (closes o))
  verdict_in finished mail o = Some (own AfterClose Composer (place_for mail))
  verdict_in (shut f tried c) mail o = Some (own AfterShut Composer (place_for mail))

  -- the fault that an order is refused with, if any
  abbrev pub verdict_for : SoFar → Order → Option Fault
  verdict_for s o = verdict_in s.course s.mail o

  -- what an accepted order answers: an open the paragraph's number, an end the number of its lines, a finish the foot's length
  abbrev pub value_for : Mail → Order → ℕ
  value_for mail (opens d) = number mail
  value_for mail (texts b) = 0
  value_for mail (ends i) = open_lines w mail.begun
  value_for mail (gives_up i) = 0
  value_for mail finishes = shown (foot_by mail true)

  abbrev pub answer_for : SoFar → Order → Result ℕ Fault
  answer_for s o = answer (value_for s.mail o) (verdict_for s o)

  -- after a refusal of the composer's own, or what came from below
  abbrev pub next_by : Option Cause → Option Fault → Mail → Order → SoFar
  next_by (Some c) below mail o = record { mail = mail; course = cond (leaves c) goes (shut (own c Composer (place_for mail)) mail false) }
  next_by None (Some f) mail o = record { mail = mail; course = shut f (mail_with mail o) (closes o) }
  next_by None None mail o = record { mail = mail_with mail o; course = fares (closes o) }

  abbrev pub next_in : Course → Mail → Order → SoFar
  next_in goes mail o = next_by (own_cause w mail o) (fault_by (mail_with mail o) (closes o)) mail o
  next_in finished mail o = record { mail = mail; course = finished }
  next_in (shut f tried c) mail o = record { mail = mail; course = shut f tried c }

  abbrev pub next_for : SoFar → Order → SoFar
  next_for s o = next_in s.course s.mail o

  -- after a list of orders, accepted and refused
  abbrev pub follows : SoFar → List Order → SoFar
  follows s [] = s
  follows s (o ∷ os) = follows (next_for s o) os

  -- the answers to all orders but text, the newest first, in front of those before
  abbrev pub answers_for : SoFar → List Order → List Reply → List Reply
  answers_for s [] l = l
  answers_for s (o ∷ os) l = answers_for (next_for s o) os (reply_on o (answer_for s o) l)

  -- how many text bytes are accepted, after n
  abbrev pub bytes_taken : SoFar → List Order → ℕ → ℕ
  bytes_taken s [] n = n
  bytes_taken s (o ∷ os) n = bytes_taken (next_for s o) os (tally o (verdict_for s o) n)

  abbrev pub foot_in : Course → Mail → List ℕ
  foot_in goes mail = foot_by mail false
  foot_in finished mail = foot_by mail true
  foot_in (shut f tried c) mail = foot_by tried c

  abbrev pub standing_in : Course → Option Fault
  standing_in goes = None
  standing_in finished = None
  standing_in (shut f tried c) = Some f

  abbrev pub start_for : SoFar
  start_for = at_first (good_start w m.fresh)

  abbrev pub reached_by : List Order → SoFar
  reached_by os = follows start_for os

  -- a history and the composer that it led to are as the rules state for its orders
  pub record AsRuled (h : List Step) (t : Taker ℕ) : Type 0 where
    -- the bytes that the end took
    pub foot : t.foot ≡ foot_in (reached_by (orders h)).course (reached_by (orders h)).mail
    -- the fault that stands
    pub standing : t.standing ≡ standing_in (reached_by (orders h)).course
    -- the answers to open, end, give up and finish
    pub answers : replies h ≡ answers_for start_for (orders h) []
    -- and how many text bytes were accepted in all
    pub bytes : accepted h ≡ bytes_taken start_for (orders h) 0
