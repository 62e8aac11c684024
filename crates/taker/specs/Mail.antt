-- A mail is a list of paragraphs.
use Rattle.std.specs.Prelude.{ℕ, List}

-- by its quote depth and its text
pub record Paragraph : Type 0 where
  pub depth : ℕ
  pub text : List ℕ
