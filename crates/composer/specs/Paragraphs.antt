-- What the code holds of a paragraph, as the machine's state.
use Rattle.std.specs.Prelude.{ℕ, Option}
use Rattle.std.specs.Option.{option_map}
use Rattle.composer.specs.declared.held_line.HeldLine.{HeldLine}
use Rattle.composer.specs.declared.paragraph.Paragraph.{Paragraph}
use Rattle.composer.specs.Machine.{Within}
use Rattle.composer.specs.State.{held_of, held_text}

-- with so many text bytes
abbrev pub opened_of : HeldLine → ℕ → Within
opened_of h n = record { depth = h.margins.depth; held = held_text (held_of h); lines = h.lines; bytes = n }

abbrev pub within_of : Paragraph → Option Within
within_of p = option_map (opened_of p.held) p.bytes
