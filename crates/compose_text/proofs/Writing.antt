-- The finish behind the paragraphs.
use Rattle.std.proofs.Common.{◌≡◌, ℕ, not, List, ◌++◌, is_some, Some, None, Ok, Err, Option, Result, refl, ◌∙◌}
use Rattle.fault.specs.declared.layer_fault.LayerFault.{LayerFault}
use Rattle.fault.specs.Kinds.{layer_fault}
use Rattle.sink.specs.Sink.{Sink}
use Rattle.taker.specs.Mail.{Paragraph}
use Rattle.history.specs.History.{Step}
use Rattle.history.specs.Settled.{settled_paragraphs}
use Rattle.plain_text.specs.Handing.{HandedAll, by_fault}
use Rattle.plain_text.proofs.Settling.{handed_settled}
use Rattle.compose_text.specs.declared.composed.Outcome.{Outcome}
use Rattle.compose_text.specs.Composed.{finish_step, Written, ComposedSo, ComposedAs}

-- a finish lists no paragraph
finish_settled : (f : Option (Result ℕ LayerFault)) (h : List Step) → settled_paragraphs (finish_step f ++ h) ≡ settled_paragraphs h
finish_settled None h = refl
finish_settled (Some (Ok n)) h = refl
finish_settled (Some (Err f)) h = refl

pub written : (ps : List Paragraph) (o : Outcome) (h : List Step) → HandedAll ps o.handed.paragraphs o.handed.lines (by_fault layer_fault o.handed.refused) h → is_some o.finish ≡ not (is_some o.handed.refused) → Written ps o (finish_step o.finish ++ h)
written ps o h handed finished = record {
  paragraphs = h;
  handed = handed;
  finished = finished;
  steps = refl;
  settled = finish_settled o.finish h ∙ handed_settled ps o.handed.paragraphs o.handed.lines (by_fault layer_fault o.handed.refused) h handed;
}

-- the steps that composed a text are some steps
pub composed_so : {w : ℕ} {m : Sink} {ps : List Paragraph} {o : Outcome} {wire : List ℕ} → ComposedAs w m ps o wire → ComposedSo w m wire
composed_so c = record { steps = c.steps; left = c.left; reached = c.reached; foot = c.foot }
