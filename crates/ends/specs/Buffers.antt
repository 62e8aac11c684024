-- What a buffer holds.
use Rattle.std.specs.Prelude.{◌≡◌, ℕ, List, drop, vec_items, Vec}
use Rattle.std.specs.declared.alloc.Global.{Global}
use Rattle.ends.specs.declared.buffer.Buffer.{Buffer}
use Rattle.ends.specs.Ends.{held}

-- the bytes that were taken
abbrev pub taken : Buffer → List ℕ
taken b = held b.memory b.len

-- behind them, the memory v is as it was handed over
abbrev pub KeptBehind : Vec ℕ Global → Buffer → Type 0
KeptBehind v b = drop b.len (vec_items b.memory) ≡ drop b.len (vec_items v)
