-- What a store holds, and how an accepted order changes it.
use Rattle.std.specs.Prelude.{ℕ, ◌+◌, Bool, true, false, List, vec_items, slice_set}
use Rattle.fault.specs.declared.fault.Fault.{Fault}
use Rattle.orders.specs.declared.phase.Phase.{Phase}
use Rattle.taker.specs.Paragraph.{Taker}
use Rattle.store.specs.declared.record.Record.{Record}
use Rattle.store.specs.declared.store.Store.{Store}
use Rattle.store.specs.Events.{Event}
use Rattle.store.specs.Foot.{nth}
use Rattle.store.specs.Store.{store_means}

-- paragraphs ended, whether one is open, bytes used, records, bytes
pub record Contents : Type 0 where
  pub count : ℕ
  pub inside : Bool
  pub used : ℕ
  pub records : List Record
  pub bytes : List ℕ

abbrev pub contents : Store → Contents
contents s = record { count = s.count; inside = s.inside; used = s.used; records = vec_items s.records; bytes = vec_items s.bytes }

abbrev pub means_by : Contents → Phase Fault → Taker Event
means_by c ph = store_means c.records c.bytes c.count c.inside c.used ph

-- a paragraph is opened
abbrev pub with_open : Contents → ℕ → Contents
with_open c d = record { count = c.count; inside = true; used = c.used; records = slice_set c.records c.count (record { depth = d; start = c.used; length = 0 }); bytes = c.bytes }

abbrev pub longer : Record → Record
longer r = record { depth = r.depth; start = r.start; length = r.length + 1 }

-- a byte joins the open paragraph's text
abbrev pub with_text : Contents → ℕ → Contents
with_text c b = record { count = c.count; inside = c.inside; used = c.used + 1; records = slice_set c.records c.count (longer (nth c.records c.count)); bytes = slice_set c.bytes c.used b }

-- the open paragraph is ended
abbrev pub with_end : Contents → Contents
with_end c = record { count = c.count + 1; inside = false; used = c.used; records = c.records; bytes = c.bytes }
