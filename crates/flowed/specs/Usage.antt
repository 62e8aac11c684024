-- How a wrong command line is told.
use Rattle.std.specs.Prelude.{◌≡◌, ℕ, List, Option, IfSome, string_bytes}
use Rattle.flowed.specs.declared.trouble.Trouble.{Trouble}
use Rattle.flowed.specs.declared.trouble.Trouble.TheVariants.{Usage, File, Io, Memory, Body, BodyWithoutLf, Mail}

-- in these bytes, where it is known what is printed, unless no memory is left
abbrev pub ToldAs : Option (List ℕ) → Trouble → Type 0
ToldAs printed (Usage s) = IfSome printed (λ bs. string_bytes s ≡ bs)
ToldAs printed Memory = Unit {0}
ToldAs printed (File name e) = ⊥
ToldAs printed (Io e) = ⊥
ToldAs printed Body = ⊥
ToldAs printed BodyWithoutLf = ⊥
ToldAs printed Mail = ⊥
