-- What the composer's code holds, as the machine's state.
use Rattle.std.specs.Prelude.{◌++◌, replicate}
use Rattle.folding.specs.Text.{Text, space}
use Rattle.folding.specs.Held.{Held}
use Rattle.composer.specs.declared.held_line.HeldLine.{HeldLine}
use Rattle.composer.specs.Parts.{held_by}

abbrev pub held_of : HeldLine → Held
held_of h = held_by h.line.items h.last_break h.spaces

-- the line and the spaces behind it
abbrev pub held_text : Held → Text
held_text h = h.line ++ replicate h.spaces space
