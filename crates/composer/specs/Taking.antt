-- What taking a text byte does to what is held.
use Rattle.std.specs.Prelude.{◌≡◌, ℕ, ◌+◌, ◌≤◌, List, [], ◌∷◌, ◌++◌, length, Ok, Result}
use Rattle.fault.specs.declared.fault.Fault.{Fault}
use Rattle.sink.specs.Sink.{Sink}
use Rattle.folding.specs.Text.{Text}
use Rattle.folding.specs.WireLine.{wire_lines}
use Rattle.composer.specs.declared.held_line.HeldLine.{HeldLine}
use Rattle.composer.specs.Machine.{finished_lines, behind_lines}
use Rattle.composer.specs.Sending.{Sends}
use Rattle.composer.specs.State.{held_of, held_text}

abbrev pub text_with : HeldLine → ℕ → Text
text_with h b = held_text (held_of h) ++ b ∷ []

-- the lines that a byte finishes
abbrev pub lines_with : HeldLine → ℕ → List Text
lines_with h b = finished_lines h.margins.depth h.margins.width (text_with h b)

-- how many bytes are held, with the spaces
abbrev pub held_len : HeldLine → ℕ
held_len h = length h.line.items + h.spaces

-- how much is counted: the lines that were sent, and the bytes that are held
abbrev pub counted : HeldLine → ℕ
counted h = h.lines + held_len h

-- the lines that the byte finishes went down, and where none was refused, what is left of the text is held
pub record Takes (h j : HeldLine) (b : ℕ) (m n : Sink) (old new : List ℕ) (r : Result (Unit {0}) Fault) : Type 0 where
  pub sends : Sends m n old new (wire_lines h.margins.depth (lines_with h b)) r
  pub margins : j.margins ≡ h.margins
  pub few : counted j ≤ counted h + 1
  pub held : r ≡ Ok tt → held_text (held_of j) ≡ behind_lines (lines_with h b) (text_with h b)
  pub lines : r ≡ Ok tt → j.lines ≡ h.lines + length (lines_with h b)

-- the same of a sink's value before and after
abbrev pub TookDown : {S : Type 0} → HeldLine → HeldLine → ℕ → (S → Sink) → (S → List ℕ) → S → S → Result (Unit {0}) Fault → Type 0
TookDown h j b means memory x y r = Takes h j b (means x) (means y) (memory x) (memory y) r
