-- The beginnings of 2D 2D 20, as a pattern on a slice tells them: by how many bytes there are, and what each of them is.
use Rattle.std.specs.Prelude.{◌≡◌, Bool, true, false, cond, ◌&&◌, length, ◌==◌, slice_index}
use Rattle.std.specs.Str.{bytes_eq}
use Rattle.folding.specs.Text.{Text, space, signature}
use Rattle.reading.specs.Machine.{beginning_of}

abbrev pub dash_at : Text → Bool
dash_at t = slice_index t 0 == 0x2D

abbrev pub dashes_at : Text → Bool
dashes_at t = dash_at t && slice_index t 1 == 0x2D

abbrev pub signs_at : Text → Bool
signs_at t = cond (length t == 3) (dashes_at t && slice_index t 2 == space) false

abbrev pub begins_at : Text → Bool
begins_at t =
    cond (length t == 0) true
    (cond (length t == 1) (dash_at t)
    (cond (length t == 2) (dashes_at t)
    (signs_at t)))

abbrev pub ToldByBytes : Type 0
ToldByBytes = (t : Text) → (begins_at t ≡ beginning_of t signature) × (signs_at t ≡ bytes_eq t signature)
