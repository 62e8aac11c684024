-- An order that sends nothing and is accepted leaves a paragraph open.
use Rattle.std.proofs.Common.{◌≡◌, ℕ, Bool, true, false, not, eqb, List, [], length, is_some, Some, None, Option, sym, refl, ap, ◌∙◌, arith, length-append}
use Rattle.fault.specs.declared.cause.Cause.{Cause}
use Rattle.fault.specs.declared.cause.Cause.TheVariants.{WrongNumber, GivenUp}
use Rattle.taker.specs.Paragraph.{Order, opens, texts, ends, gives_up, finishes}
use Rattle.layer.specs.Layer.{Stirs, sends}
use Rattle.folding.specs.Text.{Text, settled_behind}
use Rattle.folding.specs.WireLine.{bare_line, wire_line, crlf}
use Rattle.folding.proofs.Constructors.{some_none}
use Rattle.composer.specs.Machine.{Within, Composing, refuse_if, text_refusal, end_refusal, give_up_refusal, refusal, on_text, end_bytes, bytes_of, next_state, unless, between, composer}

-- what an accepted order sent, and what it left
pub record Accepted (s : Composing) (o : Order) (bs : List ℕ) (t : Composing) : Type 0 where
  pub allowed : refusal s o ≡ None
  pub bytes : bytes_of s o ≡ bs
  pub state : next_state s o ≡ t

pub accepted : (s : Composing) (o : Order) (bs : List ℕ) (t : Composing) → composer.move s o ≡ sends bs t → Accepted s o bs t
accepted s o bs t e = go (refusal s o) refl e
  where
    go : (r : Option Cause) → refusal s o ≡ r → unless r (sends (bytes_of s o) (next_state s o)) ≡ sends bs t → Accepted s o bs t
    go None q h = record { allowed = q; bytes = cc; state = cc }
    go (Some c) q h = let z : ◌≡◌ {A = ℕ} 0 1 = cc in absurd (omega arith)

line_some : (d : ℕ) (p : Text) → wire_line d p ≡ [] → ⊥
line_some d p e = let n = ap length e in omega (arith, length-append (bare_line d p) crlf)

never_up : (i n : ℕ) (p : Option Within) → give_up_refusal i n p ≡ None → ⊥
never_up i n None e = some_none e
never_up i n (Some p) e = go (not (eqb i n)) e
  where
    go : (x : Bool) → refuse_if x WrongNumber (Some GivenUp) ≡ None → ⊥
    go true h = some_none h
    go false h = some_none h

text_open : (w b : ℕ) (p : Option Within) → text_refusal w b p ≡ None → not (is_some (on_text w b p)) ≡ false
text_open w b None e = absurd (some_none e)
text_open w b (Some p) e = refl

end_some : (i n : ℕ) (p : Option Within) → end_refusal i n p ≡ None → end_bytes p ≡ [] → ⊥
end_some i n None e h = some_none e
end_some i n (Some p) e h = line_some p.depth (settled_behind p.lines p.held) h

pub composer_stirs : Stirs composer
composer_stirs s (opens d) t c e = ap between (sym (accepted s (opens d) [] t e).state)
composer_stirs s (texts b) t c e =
    let a = accepted s (texts b) [] t e in
    ap between (sym a.state) ∙ text_open s.width b s.paragraph a.allowed
composer_stirs s (ends i) t c e =
    let a = accepted s (ends i) [] t e in
    absurd (end_some i s.opened s.paragraph a.allowed a.bytes)
composer_stirs s (gives_up i) t c e = absurd (never_up i s.opened s.paragraph (accepted s (gives_up i) [] t e).allowed)
composer_stirs s finishes t c e = let z : ◌≡◌ {A = ℕ} 0 1 = cc in absurd (omega arith)
