-- The open paragraph of the code, by what its refusals tell.
use Rattle.std.proofs.Common.{◌≡◌, ℕ, ◌<◌, ◌≤◌, Bool, true, false, eqb, ltb, leb, is_some, Some, None, Option, sym, refl, ap, ◌∙◌, arith}
use Rattle.std.specs.Option.{option_map}
use Rattle.std.proofs.lemmas.Bool.{leb-false, ltb-false, not-true, not-false}
use Rattle.fault.specs.declared.cause.Cause.{Cause}
use Rattle.fault.specs.declared.cause.Cause.TheVariants.{TooDeep, BarredByte, OverLimit, NoFolding}
use Rattle.folding.specs.Text.{space}
use Rattle.folding.specs.WireLine.{wire_line}
use Rattle.folding.specs.Held.{full}
use Rattle.folding.specs.Incremental.{ending}
use Rattle.folding.proofs.Ending.{ends_settle}
use Rattle.folding.proofs.Constructors.{some_none}
use Rattle.composer.specs.declared.held_line.HeldLine.{HeldLine}
use Rattle.composer.specs.Machine.{Within, limit, deepest, open_refusal, end_refusal, barred, refuse_if, lacks_folding, text_refusal, end_bytes}
use Rattle.composer.specs.State.{held_of}
use Rattle.composer.specs.Paragraphs.{opened_of}
use Rattle.composer.proofs.Taking.{valid_of}
use Rattle.composer.proofs.Holding.{plain_foldable}

-- where no cause holds, the first test fails, and no further cause holds
pub refuses_not : (x : Bool) (c : Cause) (next : Option Cause) → refuse_if x c next ≡ None → (x ≡ false) × (next ≡ None)
refuses_not true c next e = absurd (some_none e)
refuses_not false c next e = (refl, e)

-- a text byte that is not refused
pub record Allowed (w b : ℕ) (p : Within) : Type 0 where
  pub text : barred b ≡ false
  pub few : p.bytes < limit
  pub folds : lacks_folding w p b ≡ false

pub allowed : (w b : ℕ) (p : Within) → text_refusal w b (Some p) ≡ None → Allowed w b p
allowed w b p e =
    let one = refuses_not (barred b) BarredByte _ e in
    let two = refuses_not (leb limit p.bytes) OverLimit _ one.1 in
    let three = refuses_not (lacks_folding w p b) NoFolding None two.1 in
    record { text = one.0; few = leb-false limit p.bytes two.0; folds = three.0 }

module _ (h : HeldLine) where
  -- where a byte other than a space is not refused, the line is not full
  pub has_room : (bytes : Option ℕ) (b : ℕ) → text_refusal h.margins.width b (option_map (opened_of h) bytes) ≡ None → eqb b space ≡ false → full h.margins.depth (held_of h) ≡ false
  has_room None b e plain = absurd (some_none e)
  has_room (Some n) b e plain =
      let some = not-false _ (allowed h.margins.width b (opened_of h n) e).folds in
      let told = plain_foldable h.margins.depth h.margins.width (held_of h) h.margins.shallow (valid_of h) b plain h.margins.narrow h.lines in
      not-true _ (sym told ∙ some)

  -- the last line of an open paragraph
  pub end_sent : (bytes : Option ℕ) → is_some (option_map (opened_of h) bytes) ≡ true → wire_line h.margins.depth (ending h.lines (held_of h)) ≡ end_bytes (option_map (opened_of h) bytes)
  end_sent None e = cc
  end_sent (Some n) e = ap (wire_line h.margins.depth) (ends_settle h.lines (held_of h) (valid_of h).no_space)

-- an open that is not refused
pub few_opened : (d n : ℕ) (p : Option Within) → open_refusal d n p ≡ None → n < limit
few_opened d n None e = leb-false limit n (refuses_not (leb limit n) OverLimit None (refuses_not (ltb deepest d) TooDeep _ e).1).0
few_opened d n (Some p) e = absurd (some_none e)

pub shallow_opened : (d n : ℕ) (p : Option Within) → open_refusal d n p ≡ None → d ≤ deepest
shallow_opened d n None e = let small = ltb-false deepest d (refuses_not (ltb deepest d) TooDeep _ e).0 in omega arith
shallow_opened d n (Some p) e = absurd (some_none e)

-- and an end
pub end_open : (i n : ℕ) (p : Option Within) → end_refusal i n p ≡ None → is_some p ≡ true
end_open i n None e = absurd (some_none e)
end_open i n (Some p) e = refl
