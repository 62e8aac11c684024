-- What was written, and what could not be.
use Rattle.std.specs.Prelude.{◌≡◌, ℕ, ◌+◌, ◌≤◌, min, length}
use Rattle.fault.specs.Faults.{most}
use Rattle.store.specs.declared.store.Store.{Store}
use Rattle.store.specs.Contents.{contents, with_open, with_text, with_end}

pub record Opened (a b : Store) (d n : ℕ) : Type 0 where
  pub holds : contents b ≡ with_open (contents a) d
  pub phase : b.phase ≡ a.phase
  pub number : n ≡ a.count + 1
  pub room : a.count + 1 ≤ min (length (contents a).records) most

pub record Unopened (a b : Store) : Type 0 where
  pub same : b ≡ a
  pub full : min (length (contents a).records) most ≤ a.count

pub record Wrote (a b : Store) (x : ℕ) : Type 0 where
  pub holds : contents b ≡ with_text (contents a) x
  pub phase : b.phase ≡ a.phase
  pub room : a.used + 1 ≤ length (contents a).bytes

pub record Unwritten (a b : Store) : Type 0 where
  pub same : b ≡ a
  pub full : length (contents a).bytes ≤ a.used

pub record Ended (a b : Store) : Type 0 where
  pub holds : contents b ≡ with_end (contents a)
  pub phase : b.phase ≡ a.phase
