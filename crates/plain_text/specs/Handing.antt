-- The steps that hand paragraphs to a taker, with their answers; the newest first.
use Rattle.std.specs.Prelude.{◌≡◌, ℕ, ◌+◌, ◌-◌, ◌^◌, min, List, [], ◌∷◌, ◌++◌, length, drop, Some, None, Ok, Err, sum_by, Option, Result}
use Rattle.fault.specs.declared.fault.Fault.{Fault}
use Rattle.taker.specs.Mail.{Paragraph}
use Rattle.history.specs.History.{Step, asked, fed, to_open, to_end, to_give_up}

-- what an accepted paragraph was answered: its number, and how many lines it made
pub record Ended : Type 0 where
  pub number : ℕ
  pub lines : ℕ

-- an accepted paragraph: an open at its depth, its whole text, and an end by its number
abbrev pub whole : Paragraph → Ended → List Step
whole p e = asked (to_end e.number) (Ok e.lines) ∷ fed p.text (length p.text) None ∷ asked (to_open p.depth) (Ok e.number) ∷ []

-- a paragraph that was refused with the fault f: its open was refused; or its text, and it was given up; or its end
pub data Refused (p : Paragraph) (f : Fault) : List Step → Type 0 where
  at_open : Refused p f (asked (to_open p.depth) (Err f) ∷ [])
  in_text : (n k : ℕ) (g : Fault) → Refused p f (asked (to_give_up n) (Err g) ∷ fed p.text k (Some f) ∷ asked (to_open p.depth) (Ok n) ∷ [])
  at_end : (n : ℕ) → Refused p f (asked (to_end n) (Err f) ∷ fed p.text (length p.text) None ∷ asked (to_open p.depth) (Ok n) ∷ [])

-- one paragraph, by the answer: the number of its lines, or the fault that refused it
abbrev pub HandedOne : Paragraph → Result ℕ Fault → List Step → Type 0
HandedOne p (Ok lines) k = (number : ℕ) × (k ≡ whole p (record { number = number; lines = lines }))
HandedOne p (Err f) k = Refused p f k

-- as many paragraphs as were answered, each accepted, one after the other
abbrev pub wholes : List Paragraph → List Ended → List Step
wholes ps [] = []
wholes [] (e ∷ es) = []
wholes (p ∷ ps) (e ∷ es) = wholes ps es ++ whole p e

-- the paragraph behind those that were accepted was refused; it is counted from 1
pub record Stopped (ps : List Paragraph) (es : List Ended) (at : ℕ) (f : Fault) (k : List Step) : Type 0 where
  pub place : at ≡ length es + 1
  pub paragraph : Paragraph
  pub others : List Paragraph
  pub there : drop (length es) ps ≡ paragraph ∷ others
  pub last : List Step
  pub refused : Refused paragraph f last
  pub steps : k ≡ last ++ wholes ps es

-- all were accepted, or one was refused, and none was handed on behind it
abbrev pub ToRefusal : List Paragraph → List Ended → Option (ℕ × Fault) → List Step → Type 0
ToRefusal ps es None k = (length es ≡ length ps) × (k ≡ wholes ps es)
ToRefusal ps es (Some r) k = Stopped ps es r.0 r.1 k

-- a refusal by the fault that it means
abbrev pub by_fault : {F : Type 0} → (F → Fault) → Option (ℕ × F) → Option (ℕ × Fault)
by_fault means None = None
by_fault means (Some r) = Some (r.0, means r.1)

-- paragraphs, one after the other, to the first that is refused: how many were accepted, and how many lines they made, as far as
-- 64 bits tell
pub record HandedAll (ps : List Paragraph) (paragraphs lines : ℕ) (refused : Option (ℕ × Fault)) (k : List Step) : Type 0 where
  pub ended : List Ended
  pub count : paragraphs ≡ length ended
  pub sum : lines ≡ min (sum_by (λ e. e.lines) ended) (2 ^ 64 - 1)
  pub so : ToRefusal ps ended refused k
