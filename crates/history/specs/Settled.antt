-- What follows from orders and answers: the settled paragraphs of a history, and whether it has finished.
use Rattle.std.specs.Prelude.{ℕ, ◌+◌, Bool, true, false, List, [], ◌∷◌, ◌++◌, take, Some, None, Ok, Err, Option, Result}
use Rattle.fault.specs.declared.fault.Fault.{Fault}
use Rattle.folding.specs.Text.{settled}
use Rattle.orders.specs.Lists.{each}
pub use Rattle.taker.specs.Mail.{Paragraph}
use Rattle.taker.specs.Paragraph.{Order, opens, texts, ends, finishes}
use Rattle.history.specs.History.{Ask, to_open, to_end, to_give_up, to_finish, Step, asked, fed}

-- the text that was begun, if any, and the paragraphs that were ended
pub record Track : Type 0 where
  pub begun : Option Paragraph
  pub listed : List Paragraph

-- a paragraph as it settles
abbrev pub settle : Paragraph → Paragraph
settle p = record { depth = p.depth; text = settled p.text }

abbrev pub joined : Option Paragraph → List ℕ → Option Paragraph
joined None bs = None
joined (Some p) bs = Some (record { depth = p.depth; text = p.text ++ bs })

abbrev pub listing : Option Paragraph → List Paragraph → List Paragraph
listing None l = l
listing (Some p) l = l ++ record { depth = p.depth; text = settled p.text } ∷ []

-- an accepted open begins a text at its depth, an accepted end lists depth and settled text, a refusal lists nothing
abbrev pub noted : Ask → Result ℕ Fault → Track → Track
noted a (Err f) t = t
noted (to_open d) (Ok n) t = record { begun = Some (record { depth = d; text = [] }); listed = t.listed }
noted (to_end k) (Ok n) t = record { begun = None; listed = listing t.begun t.listed }
noted (to_give_up k) (Ok n) t = t
noted to_finish (Ok n) t = t

-- accepted bytes join the text
abbrev pub track : List Step → Track
track [] = record { begun = None; listed = [] }
track (asked a r ∷ h) = noted a r (track h)
track (fed bs c f ∷ h) = record { begun = joined (track h).begun (take c bs); listed = (track h).listed }

abbrev pub settled_paragraphs : List Step → List Paragraph
settled_paragraphs h = (track h).listed

-- a finish was accepted
abbrev pub finish_in : Ask → Result ℕ Fault → Bool → Bool
finish_in a (Err f) b = b
finish_in (to_open d) (Ok n) b = b
finish_in (to_end k) (Ok n) b = b
finish_in (to_give_up k) (Ok n) b = b
finish_in to_finish (Ok n) b = true

abbrev pub has_finished : List Step → Bool
has_finished [] = false
has_finished (asked a r ∷ h) = finish_in a r (has_finished h)
has_finished (fed bs c f ∷ h) = has_finished h

-- handed on, each paragraph is an open, its text bytes and an end by its number, with one finish last; n were opened before
abbrev pub handed_on : ℕ → List Paragraph → List Order
handed_on n [] = finishes ∷ []
handed_on n (p ∷ ps) = opens p.depth ∷ each texts p.text (ends (n + 1) ∷ handed_on (n + 1) ps)
