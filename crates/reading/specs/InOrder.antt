-- In which order a reader hands on.
use Rattle.std.specs.Prelude.{◌≡◌, ℕ, ◌≤◌, true, false, List, [], ◌∷◌, Some, None, Ok, Option}
use Rattle.taker.specs.Paragraph.{barred, deepest}
use Rattle.folding.specs.Text.{signature}
use Rattle.reading.specs.Events.{Event, opened, text, ended}
use Rattle.reading.specs.Machine.{Content, held, passed, State, in_marks, in_content, behind_cr, start, beginning_of}
use Rattle.reading.specs.Runs.{run, read}

-- the depth of the paragraph that is open in a state
abbrev pub open_in : State → Option ℕ
open_in (in_marks o n) = o
open_in (in_content d k c) = Some d
open_in (behind_cr d k c) = Some d

-- events in order, by the depth of the paragraph that is open before and behind them: one is opened where none is open, text and
-- end are those of the open one, no depth is too great and no text byte is barred
pub data InOrder : Option ℕ → List Event → Option ℕ → Type 0 where
  nothing : {o : Option ℕ} → InOrder o [] o
  opening : {d : ℕ} {es : List Event} {o : Option ℕ} → d ≤ deepest → InOrder (Some d) es o → InOrder None (opened d ∷ es) o
  byte : {d b : ℕ} {es : List Event} {o : Option ℕ} → barred b ≡ false → InOrder (Some d) es o → InOrder (Some d) (text b ∷ es) o
  ending : {d : ℕ} {es : List Event} {o : Option ℕ} → InOrder None es o → InOrder (Some d) (ended ∷ es) o

-- what holds in every state that is reached: no depth is too great, and what is held is a beginning of 2D 2D 20
abbrev pub SoundContent : Content → Type 0
SoundContent (held h) = beginning_of h signature ≡ true
SoundContent (passed s) = Unit {0}

abbrev pub Sound : State → Type 0
Sound (in_marks o n) = n ≤ deepest
Sound (in_content d k c) = (d ≤ deepest) × SoundContent c
Sound (behind_cr d k c) = (d ≤ deepest) × SoundContent c

-- whatever bytes are read, what they hand on is in order, and so is what the finish hands on
pub record HandsInOrder (bs : List ℕ) : Type 0 where
  pub open_then : Option ℕ
  pub so_far : InOrder None (run start bs).handed open_then
  pub state : (s : State) → (run start bs).left ≡ Ok s → (open_in s ≡ open_then) × Sound s
  pub finished : (es : List Event) → read bs ≡ Ok es → InOrder None es None

abbrev pub HandedInOrder : Type 0
HandedInOrder = (bs : List ℕ) → HandsInOrder bs
