-- Worked mails, over the definitions that the contracts cite.
use Rattle.std.specs.Prelude.{◌≡◌, ℕ, true, List, [], ◌∷◌, ◌++◌, Some, codes}
use Rattle.fault.specs.declared.cause.Cause.TheVariants.{Full}
use Rattle.fault.specs.declared.layer.Layer.TheVariants.{End}
use Rattle.orders.specs.declared.phase.Phase.TheVariants.{Running}
use Rattle.orders.specs.Permits.{Filled, all_of}
use Rattle.orders.specs.Lists.{reach, ran}
use Rattle.sink.specs.Sink.{down}
use Rattle.ends.specs.Ends.{end_means, fits}
use Rattle.layer.specs.Layer.{layer_means}
use Rattle.dot.specs.declared.line.LineState.TheVariants.{Start}
use Rattle.dot.specs.Stuffing.{crlf, end_mark}
use Rattle.dot.specs.Dot.{dot}
use Rattle.folding.specs.Mails.{Mails as Foldings}
use Rattle.reading.specs.Mails.{Mails as Readings}
use Rattle.taker.specs.Paragraph.{Order, opens, texts, ends, finishes, Taker}
use Rattle.composer.specs.Composers.{new_means}

-- a text and a close through a new dot stage over a memory of so many bytes
abbrev pub dotted : ℕ → List ℕ → Filled ℕ
dotted n bs = reach (layer_means dot (end_means (fits n) [] Running) Start Running 0) (down bs true) true

-- paragraphs' orders to a new composer of width 20 over a new dot stage over a memory of so many bytes
abbrev pub over_dot : ℕ → Taker ℕ
over_dot n = new_means 20 (layer_means dot (end_means (fits n) [] Running) Start Running 0)

-- .x at depth 0, ended
abbrev pub dot_x : List Order
dot_x = opens 0 ∷ texts 46 ∷ texts 120 ∷ ends 1 ∷ []

pub record Mails : Type 0 where
  -- foldings, at width 20
  pub folded : Foldings
  -- lines read as paragraphs
  pub read : Readings
  -- .a CRLF gives ..a CRLF . CRLF
  pub dot_doubled : dotted 100 (codes ".a" ++ crlf) ≡ all_of (codes "..a" ++ crlf ++ end_mark)
  -- nothing gives . CRLF
  pub dot_nothing : dotted 100 [] ≡ all_of end_mark
  -- .x over dot over 8 bytes finishes as ..x CRLF . CRLF
  pub finished : ran (over_dot 8) (dot_x ++ finishes ∷ []) ≡ all_of (codes "..x" ++ crlf ++ end_mark)
  -- over 7 bytes the finish is refused: memory full, in the end, two levels down, at place 7
  pub unfinished : ran (over_dot 7) (dot_x ++ finishes ∷ []) ≡ record { list = codes "..x" ++ crlf ++ (46 ∷ 13 ∷ []); fault = Some (record { cause = Full; layer = End; level = 2; place = 7 }) }
