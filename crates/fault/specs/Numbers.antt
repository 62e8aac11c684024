-- The number of each cause and of each layer.
use Rattle.std.specs.Prelude.{ℕ}
use Rattle.fault.specs.declared.cause.Cause.{Cause}
use Rattle.fault.specs.declared.cause.Cause.TheVariants.{ParagraphOpen, NoParagraph, TooDeep, ParagraphLeft, AfterClose, AfterShut, BarredByte, OverLimit, NoFolding, GivenUp, WrongNumber, BadStart, Full, Differs, Unpaired, Incomplete, AfterEndMark}
use Rattle.fault.specs.declared.layer.Layer.{Layer}
use Rattle.fault.specs.declared.layer.Layer.TheVariants.{Composer, Reader, Dot, DotUndoing, End, Store}

abbrev pub cause_number : Cause → ℕ
cause_number ParagraphOpen = 1
cause_number NoParagraph = 2
cause_number TooDeep = 3
cause_number ParagraphLeft = 4
cause_number AfterClose = 5
cause_number AfterShut = 6
cause_number BarredByte = 7
cause_number OverLimit = 8
cause_number NoFolding = 9
cause_number GivenUp = 10
cause_number WrongNumber = 11
cause_number BadStart = 12
cause_number Full = 13
cause_number Differs = 14
cause_number Unpaired = 15
cause_number Incomplete = 16
cause_number AfterEndMark = 17

abbrev pub layer_number : Layer → ℕ
layer_number Composer = 1
layer_number Reader = 2
layer_number Dot = 4
layer_number DotUndoing = 6
layer_number End = 7
layer_number Store = 8
