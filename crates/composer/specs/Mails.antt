-- Paragraphs given as orders, and what they add below.
use Rattle.std.specs.Prelude.{◌≡◌, ℕ, ◌+◌, ◌<◌, ◌≤◌, min, true, false, ◌↔◌, List, [], ◌∷◌, ◌++◌, length, Some, None, Option}
use Rattle.std.specs.List.{AllByRecursion}
use Rattle.fault.specs.declared.cause.Cause.TheVariants.{NoFolding}
use Rattle.fault.specs.declared.layer.Layer.TheVariants.{Composer}
use Rattle.fault.specs.Faults.{own, most}
use Rattle.orders.specs.Lists.{addition}
use Rattle.sink.specs.Sink.{Sink, down}
use Rattle.taker.specs.Paragraph.{Order, opens, texts, ends, finishes, Taker, text_orders}
pub use Rattle.taker.specs.Mail.{Paragraph}
use Rattle.layer.specs.Layer.{lifted}
use Rattle.folding.specs.Text.{Text, trimmed, settled}
use Rattle.folding.specs.WireLine.{wire_lines}
use Rattle.folding.specs.Folded.{Folded, pieces}
use Rattle.folding.specs.Folding.{folding, wire}
use Rattle.composer.specs.Machine.{deepest, limit, barred}

-- a paragraph that the composer takes if it has a folding
pub record Writable (p : Paragraph) : Type 0 where
  pub shallow : p.depth ≤ deepest
  pub plain : AllByRecursion (λ b. barred b ≡ false) p.text
  pub short : length p.text ≤ limit

-- a paragraph opened, with its text so far
abbrev pub begun : Paragraph → List Order
begun p = opens p.depth ∷ text_orders p.text

-- paragraphs opened, with their texts, and ended by their numbers, of which the first is n
abbrev pub given : ℕ → List Paragraph → List Order
given n [] = []
given n (p ∷ ps) = (begun p ++ ends n ∷ []) ++ given (n + 1) ps

abbrev pub then_wire : Option Text → Option Text → Option Text
then_wire None u = None
then_wire (Some t) None = None
then_wire (Some t) (Some u) = Some (t ++ u)

-- the wire bytes of paragraphs at width w, or none
abbrev pub wires : ℕ → List Paragraph → Option Text
wires w [] = Some []
wires w (p ∷ ps) = then_wire (wire p.depth w p.text) (wires w ps)

abbrev pub text_length : List Paragraph → ℕ
text_length [] = 0
text_length (p ∷ ps) = length p.text + text_length ps

-- so many text bytes as a place
abbrev pub as_place : ℕ → ℕ
as_place n = min n most

-- c adds, over what m adds, for ended paragraphs their wire bytes
pub record SendsEnded (m : Sink) (c : Taker ℕ) (ps : List Paragraph) (cs : Text) : Type 0 where
  pub so_far : addition c.adds (given 1 ps) ≡ lifted (addition m.adds (down cs false))
  -- and with a finish the close behind them
  pub finished : addition c.adds (given 1 ps ++ finishes ∷ []) ≡ lifted (addition m.adds (down cs true))

-- and for an open one behind them every line but the last of the folding of its text through its last byte that is no space
pub record SendsOpen (w : ℕ) (m : Sink) (c : Taker ℕ) (ps : List Paragraph) (cs : Text) (p : Paragraph) (f : Folded) : Type 0 where
  pub so_far : addition c.adds (given 1 ps ++ begun p) ≡ lifted (addition m.adds (down (cs ++ wire_lines p.depth f.flowed) false))
  -- the next byte is refused for want of a folding exactly where the text through it, settled, has none, and then sends nothing
  pub refused : (b : ℕ) → barred b ≡ false → length p.text < limit → folding p.depth w (settled (p.text ++ b ∷ [])) ≡ None ↔ c.adds (given 1 ps ++ begun p) (texts b) ≡ record { items = []; fault = Some (own NoFolding Composer (as_place (text_length ps + length p.text))) }
  -- its end answers the number of lines
  pub lines : (g : Folded) → folding p.depth w (settled p.text) ≡ Some g → c.says (given 1 ps ++ begun p) (ends (length ps + 1)) ≡ length (pieces g)

-- a new composer of width w over the sink m
pub record Composes (w : ℕ) (m : Sink) (c : Taker ℕ) : Type 0 where
  pub ended : (ps : List Paragraph) (cs : Text) → AllByRecursion Writable ps → length ps ≤ limit → wires w ps ≡ Some cs → SendsEnded m c ps cs
  pub unended : (ps : List Paragraph) (cs : Text) → AllByRecursion Writable ps → length ps < limit → wires w ps ≡ Some cs →
      (p : Paragraph) (f : Folded) → Writable p → folding p.depth w (trimmed p.text) ≡ Some f → SendsOpen w m c ps cs p f
