-- What a reader hands on of paragraphs.
use Rattle.std.specs.Prelude.{ℕ, List, [], ◌∷◌, ◌++◌, map, Some, None, Option}
use Rattle.std.specs.List.{flat_map}
pub use Rattle.taker.specs.Events.{Event, opened, text, ended}
use Rattle.folding.specs.Text.{Text}
use Rattle.reading.specs.Paragraphs.{Paragraph}

abbrev pub texts : Text → List Event
texts t = map text t

-- a paragraph without its end
abbrev pub begun : Paragraph → List Event
begun p = opened p.depth ∷ texts p.text

abbrev pub whole : Paragraph → List Event
whole p = begun p ++ ended ∷ []

-- paragraphs in order, each with its end
abbrev pub told : List Paragraph → List Event
told ps = flat_map whole ps

-- the end of a paragraph, unless it is still open
abbrev pub end_unless : Option ℕ → List Event
end_unless None = ended ∷ []
end_unless (Some d) = []

-- paragraphs in order, the last without its end if it is still open
abbrev pub told_so_far : Option ℕ → List Paragraph → List Event
told_so_far o [] = []
told_so_far o (p ∷ []) = begun p ++ end_unless o
told_so_far o (p ∷ q ∷ ps) = whole p ++ told_so_far o (q ∷ ps)
