-- Sinks with the same stages, and ends with the same permit.
use Rattle.std.specs.Prelude.{◌≡◌, ℕ, true, List, [], None}
use Rattle.orders.specs.Meaning.{Permit}
use Rattle.orders.specs.Permits.{fill}
use Rattle.orders.specs.Lists.{addition}
use Rattle.undo.specs.Undoing.{Undoing, undone}
use Rattle.sink.specs.Sink.{Order, Sink}

-- each list of bytes comes to the same
abbrev pub SameUndoing : Undoing → Undoing → Type 0
SameUndoing u v = (bs : List ℕ) → undone u bs ≡ undone v bs

-- equally many stages, which add alike, refusals included, and are undone alike
pub record SameStages (a b : Sink) : Type 0 where
  pub many : a.fixed.above ≡ b.fixed.above
  pub add : (os : List Order) → addition a.adds os ≡ addition b.adds os
  pub undo : SameUndoing a.fixed.also b.fixed.also

-- the same lists are permitted, and may be closed on, with the same faults
pub record SamePermit {E : Type 0} (p q : Permit E) : Type 0 where
  pub permitted : (xs : List E) → (fill p.bars [] xs).fault ≡ (fill q.bars [] xs).fault
  pub closable : (xs : List E) → (fill p.bars [] xs).fault ≡ None → p.ending xs ≡ q.ending xs

-- two fresh sinks to compose over
pub record Matched (a b : Sink) : Type 0 where
  pub one : a.fresh ≡ true
  pub other : b.fresh ≡ true
  pub stages : SameStages a b
  pub permit : SamePermit a.fixed.end b.fixed.end
