-- A text handed on in pieces.
use Rattle.std.proofs.Common.{◌≡◌, ℕ, List, [], ◌∷◌, ◌++◌, Some, None, Ok, Err, Option, Result, sym, refl, ap, ◌∙◌, append_assoc}
use Rattle.std.specs.Option.{option_or}
use Rattle.std.specs.Result.{result_err}
use Rattle.fault.specs.declared.fault.Fault.{Fault}
use Rattle.fault.specs.Answers.{or_else, via, told}
use Rattle.taker.specs.Paragraph.{Order, texts, text_orders}
use Rattle.exchange.specs.Given.{refusal_in}

pub texts_append : (xs ys : List ℕ) → text_orders (xs ++ ys) ≡ text_orders xs ++ text_orders ys
texts_append [] ys = refl
texts_append (x ∷ xs) ys = ap (λ (l : List Order). texts x ∷ l) (texts_append xs ys)

-- one piece more is done
pub piece_more : (done piece rest left all : List ℕ) → rest ≡ piece ++ left → done ++ rest ≡ all → (done ++ piece) ++ left ≡ all
piece_more done piece rest left all cut is = append_assoc done piece left ∙ ap (λ (l : List ℕ). done ++ l) (sym cut) ∙ is

via_or : {F : Type 0} (means : F → Fault) (a b : Option F) → via means (option_or a b) ≡ or_else (via means a) (via means b)
via_or means None b = refl
via_or means (Some x) b = refl

-- the first of two refusals
pub via_first : {F : Type 0} (means : F → Fault) (a b r : Option F) → r ≡ option_or a b → via means r ≡ or_else (via means a) (via means b)
via_first means a b r is = ap (via means) is ∙ via_or means a b

-- the refusal in an answer
pub via_err : {F : Type 0} (means : F → Fault) (r : Result ℕ F) → via means (result_err r) ≡ refusal_in (told means r)
via_err means (Ok n) = refl
via_err means (Err f) = refl
