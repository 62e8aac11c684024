-- What stands in memory once a text was composed.
use Rattle.std.specs.Prelude.{◌≡◌, ℕ, Bool, true, false, not, List, [], ◌∷◌, ◌++◌, map, take, is_some, Some, None, Ok, Err, Option, Result, Vec}
use Rattle.std.specs.declared.alloc.Global.{Global}
use Rattle.fault.specs.declared.layer_fault.LayerFault.{LayerFault}
use Rattle.fault.specs.Kinds.{layer_fault}
use Rattle.fault.specs.Answers.{told}
use Rattle.orders.specs.declared.phase.Phase.TheVariants.{Running}
use Rattle.orders.specs.Steps.{shown}
use Rattle.sink.specs.Sink.{Sink}
use Rattle.layer.specs.Layer.{layer_means}
use Rattle.ends.specs.Ends.{memory_means}
use Rattle.dot.specs.declared.line.LineState.TheVariants.{Start}
use Rattle.dot.specs.Dot.{dot}
use Rattle.taker.specs.Mail.{Paragraph}
use Rattle.taker.specs.Paragraph.{Taker}
use Rattle.history.specs.History.{Step, asked, to_finish, Reached}
use Rattle.history.specs.Settled.{settle, settled_paragraphs}
use Rattle.composer.specs.Composers.{new_means}
use Rattle.plain_text.specs.Handing.{HandedAll, by_fault}
use Rattle.compose_text.specs.declared.composed.Outcome.{Outcome}

-- a new memory end, and a new dot stage over one
abbrev pub bare : Vec ℕ Global → Sink
bare v = memory_means v 0 Running

abbrev pub dotted : Vec ℕ Global → Sink
dotted v = layer_means dot (memory_means v 0 Running) Start Running 0

-- with or without the dot stage
abbrev pub pile : Bool → Vec ℕ Global → Sink
pile true v = dotted v
pile false v = bare v

-- the finish, with its answer
abbrev pub finish_step : Option (Result ℕ LayerFault) → List Step
finish_step None = []
finish_step (Some r) = asked to_finish (told layer_fault r) ∷ []

-- the paragraphs handed on, to the first that was refused, and then the finish, unless one was refused
pub record Written (ps : List Paragraph) (o : Outcome) (k : List Step) : Type 0 where
  pub paragraphs : List Step
  pub handed : HandedAll ps o.handed.paragraphs o.handed.lines (by_fault layer_fault o.handed.refused) paragraphs
  pub finished : is_some o.finish ≡ not (is_some o.handed.refused)
  pub steps : k ≡ finish_step o.finish ++ paragraphs
  -- those that were accepted settle
  pub settled : settled_paragraphs k ≡ map settle (take o.handed.paragraphs ps)

-- an accepted finish answers the foot's length
abbrev pub FootTold : Option (Result ℕ LayerFault) → List ℕ → Type 0
FootTold (Some (Ok n)) foot = n ≡ shown foot
FootTold (Some (Err f)) foot = Unit {0}
FootTold None foot = Unit {0}

-- the bytes are the foot that some steps of a new composer of width w over the sink led to
pub record ComposedSo (w : ℕ) (m : Sink) (wire : List ℕ) : Type 0 where
  pub steps : List Step
  pub left : Taker ℕ
  pub reached : Reached (new_means w m) steps left
  pub foot : left.foot ≡ wire

-- the bytes are the foot that such steps of a new composer of width w over the sink led to
pub record ComposedAs (w : ℕ) (m : Sink) (ps : List Paragraph) (o : Outcome) (wire : List ℕ) : Type 0 where
  pub steps : List Step
  pub written : Written ps o steps
  pub left : Taker ℕ
  pub reached : Reached (new_means w m) steps left
  pub foot : left.foot ≡ wire
  pub told : FootTold o.finish wire
