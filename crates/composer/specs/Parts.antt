-- What is held, by the parts of the code's value.
use Rattle.std.specs.Prelude.{ℕ, Option}
use Rattle.folding.specs.Text.{Text}
use Rattle.folding.specs.Held.{Held}

abbrev pub held_by : Text → Option ℕ → ℕ → Held
held_by line last_break spaces = record { line = line; last_break = last_break; spaces = spaces }
