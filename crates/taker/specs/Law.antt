-- What every paragraph taker keeps.
use Rattle.std.specs.Prelude.{◌≡◌, ℕ, ◌+◌, ◌≤◌, false, ◌⊎◌, List, [], ◌∷◌, take, Some, None}
use Rattle.fault.specs.declared.fault.Fault.{Fault}
use Rattle.orders.specs.Steps.{after, verdict, mild}
use Rattle.orders.specs.Lists.{sent}
use Rattle.orders.specs.Laws.{Sound}
use Rattle.taker.specs.Paragraph.{Order, opens, texts, ends, gives_up, finishes, Taker, text_orders}

abbrev pub more : Order → ℕ → ℕ
more (opens d) n = n + 1
more (texts b) n = n
more (ends k) n = n
more (gives_up k) n = n
more finishes n = n

-- how many paragraphs the orders opened, after n
abbrev pub opened : ℕ → List Order → ℕ
opened n [] = n
opened n (o ∷ os) = opened (more o n) os

-- accepted opens answer the paragraphs' numbers, one after the other, after n
abbrev pub Numbered : {E : Type 0} → Taker E → ℕ → Type 0
Numbered m n = (p : List Order) (d : ℕ) → (m.adds p (opens d)).fault ≡ None → m.says p (opens d) ≡ opened n p + 1

-- every text byte is refused, leaving all as it was
abbrev pub Deaf : {E : Type 0} → Taker E → Type 0
Deaf m = (b : ℕ) → (f : Fault) × ((verdict m (texts b) ≡ Some f) × (m ≡ after m (texts b)))

-- no text byte is refused so: one that is refused shuts
abbrev pub Hearing : {E : Type 0} → Taker E → Type 0
Hearing m = (b : ℕ) (f : Fault) → verdict m (texts b) ≡ Some f → mild f ≡ false

pub record Lawful {E : Type 0} (m : Taker E) : Type 0 where
  pub sound : Sound m
  -- how many paragraphs were opened
  pub before : ℕ
  pub numbered : Numbered m before
  -- so that it does not matter where a chunk is cut
  pub uniform : Deaf m ⊎ Hearing m

-- the law holds after each of the first n bytes of a chunk
abbrev pub LawfulThrough : {E : Type 0} → Taker E → List ℕ → ℕ → Type 0
LawfulThrough m bs n = (k : ℕ) → k ≤ n → Lawful (sent m (text_orders (take k bs)))
