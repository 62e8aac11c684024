-- What is told of paragraphs, one after the other.
use Rattle.std.specs.Prelude.{ℕ}

-- a paragraph is opened at a depth, goes on with a text byte, or is ended
pub data Event : Type 0 where
  opened : ℕ → Event
  text : ℕ → Event
  ended : Event
