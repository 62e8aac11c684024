-- What the dot stage does to a text, line by line.
use Rattle.std.specs.Prelude.{◌≡◌, ℕ, true, List, None}
use Rattle.std.specs.List.{AllByRecursion}
use Rattle.orders.specs.declared.phase.Phase.TheVariants.{Running}
use Rattle.orders.specs.Lists.{addition}
use Rattle.sink.specs.Sink.{Sink, down}
use Rattle.layer.specs.Layer.{layer_means, lifted}
use Rattle.dot.specs.declared.line.LineState.TheVariants.{Start}
use Rattle.dot.specs.Stuffing.{Clean, text_of, stuffed}
use Rattle.dot.specs.Dot.{dot}

-- a new stage over m adds, for the text of lines and a close, what m adds for the stuffed lines, the end mark and a close;
-- and it takes and closes on no other text
pub record Stuffs (m : Sink) : Type 0 where
  pub lines : (ls : List (List ℕ)) → AllByRecursion Clean ls → addition (layer_means dot m Start Running 0).adds (down (text_of ls) true) ≡ lifted (addition m.adds (down (stuffed ls) true))
  pub only : (bs : List ℕ) → (addition (layer_means dot m Start Running 0).adds (down bs true)).fault ≡ None → (ls : List (List ℕ)) × (AllByRecursion Clean ls × (bs ≡ text_of ls))
