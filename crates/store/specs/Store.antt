-- What a store means.
use Rattle.std.specs.Prelude.{ℕ, ◌+◌, min, Bool, true, false, not, ◌&&◌, List, [], ◌∷◌, length, ◌==◌, nat_le}
use Rattle.fault.specs.declared.fault.Fault.{Fault}
use Rattle.fault.specs.declared.cause.Cause.{Cause}
use Rattle.fault.specs.declared.cause.Cause.TheVariants.{ParagraphOpen, NoParagraph, TooDeep, ParagraphLeft, BarredByte, GivenUp, WrongNumber}
use Rattle.fault.specs.declared.layer.Layer.TheVariants.{Store}
use Rattle.fault.specs.Faults.{most}
use Rattle.orders.specs.declared.phase.Phase.{Phase}
use Rattle.orders.specs.Meaning.{Permit}
use Rattle.orders.specs.Bottom.{Bottom, Step, takes, stops, bottom_means}
use Rattle.taker.specs.Paragraph.{Order, opens, texts, ends, gives_up, finishes, paragraphs, Taker, barred, deepest}
use Rattle.store.specs.declared.record.Record.{Record}
use Rattle.store.specs.Events.{Event, opened, text, ended, holds, told_by}

-- how many paragraphs were ended, and whether one is open
pub record Pages : Type 0 where
  pub count : ℕ
  pub inside : Bool

abbrev pub at : ℕ → Bool → Pages
at n inside = record { count = n; inside = inside }

abbrev pub unless : Bool → Cause → Step Pages Event → Step Pages Event
unless true c s = stops c
unless false c s = s

-- with n paragraphs ended, and one open or none
abbrev pub store_step : ℕ → Bool → Order → Step Pages Event
store_step n true (opens d) = stops ParagraphOpen
store_step n true (texts b) = unless (barred b) BarredByte (takes (text b ∷ []) (at n true))
store_step n true (ends k) = unless (not (k == n + 1)) WrongNumber (takes (ended ∷ []) (at (n + 1) false))
store_step n true (gives_up k) = unless (not (k == n + 1)) WrongNumber (stops GivenUp)
store_step n true finishes = stops ParagraphLeft
store_step n false (opens d) = unless (not (nat_le d deepest)) TooDeep (takes (opened d ∷ []) (at n true))
store_step n false (texts b) = stops NoParagraph
store_step n false (ends k) = stops NoParagraph
store_step n false (gives_up k) = stops NoParagraph
store_step n false finishes = takes [] (at n false)

-- an open answers the paragraph's number, an end one line
abbrev pub store_tells : ℕ → Order → ℕ
store_tells n (opens d) = n + 1
store_tells n (texts b) = 0
store_tells n (ends k) = 1
store_tells n (gives_up k) = 0
store_tells n finishes = 0

abbrev pub store : Bottom paragraphs Event
store = record {
  St = Pages;
  step = λ s. store_step s.count s.inside;
  tells = λ s. store_tells s.count;
  ready = λ s. not s.inside && (s.count == 0);
  layer = Store;
  also = tt;
}

-- a store over records and bytes, by what they hold, with n paragraphs ended and so many bytes used; numbers go no further
-- than they are told, so no more records are used
abbrev pub store_permit : List Record → List ℕ → Permit Event
store_permit records bytes = holds (min (length records) most) (length bytes)

abbrev pub store_means : List Record → List ℕ → ℕ → Bool → ℕ → Phase Fault → Taker Event
store_means records bytes n inside used phase = bottom_means store (store_permit records bytes) (told_by records bytes n inside) (at n inside) phase (min used most)
