-- Each order that is written, or that finds no room.
use Rattle.std.proofs.Common.{◌≡◌, ℕ, ◌+◌, ◌<◌, ◌≤◌, min, Bool, true, false, ltb, List, [], ◌∷◌, ◌++◌, length, set, Some, Ok, vec_items, sym, refl, ap, ◌∙◌, subst, arith, length-set, le-ltb, lt-ltb}
use Rattle.std.proofs.lemmas.List.{take-set, drop-set-lt}
use Rattle.fault.specs.declared.cause.Cause.TheVariants.{Full}
use Rattle.fault.specs.declared.layer.Layer.TheVariants.{Store as Layered}
use Rattle.fault.specs.declared.own_fault.OwnFault.{OwnFault}
use Rattle.fault.specs.Faults.{own, most}
use Rattle.fault.specs.Kinds.{own_fault}
use Rattle.orders.specs.declared.phase.Phase.TheVariants.{Running, Closed}
use Rattle.orders.specs.Phases.{phased}
use Rattle.orders.specs.Steps.{grown}
use Rattle.orders.specs.Bottom.{bottom_means}
use Rattle.taker.specs.Paragraph.{opens, texts, ends, finishes}
use Rattle.store.specs.declared.record.Record.{Record}
use Rattle.store.specs.declared.store.Store.{Store}
use Rattle.store.specs.Events.{Event, opened, text, ended, if_room, holds, told_by, opens_in, texts_in, in_use}
use Rattle.store.specs.Store.{at, store, store_step, store_permit}
use Rattle.store.specs.Contents.{Contents, contents, means_by, with_open, with_text, with_end, longer}
use Rattle.store.specs.Tiles.{room_none}
use Rattle.store.specs.Foot.{Filed, nth, foot_opens, foot_texts}
use Rattle.store.specs.Keeps.{Kept, Stay, stay_all, kept_same}
use Rattle.store.specs.Meant.{meant, filed, own_answer, Turned, RefusedSo}
use Rattle.store.specs.Written.{Opened, Wrote, Ended}
use Rattle.store.proofs.Footing.{foot_open, foot_text, foot_end}
use Rattle.store.proofs.Taking.{Took, permit_of, one_more, took_by, full_by, open_step, text_step, end_step, finish_step}

-- one cell changes
stay_set : {X : Type 0} (xs : List X) (n : ℕ) (x : X) → Stay n (n + 1) xs (set xs n x)
stay_set xs n x = record { front = take-set xs n x; behind = drop-set-lt (n + 1) xs n x (omega arith); grown = omega arith }

no_room : (x : Bool) (p : List Event) (u : ℕ) → x ≡ false → texts_in p ≡ u → if_room x p ≡ Some (own Full Layered (min u most))
no_room false p u e h = ap (λ (y : ℕ). Some (own Full Layered (min y most))) h
no_room true p u e h = let z : ◌≡◌ {A = ℕ} 0 1 = cc in absurd (omega arith)

-- over what a store holds, with none open
module _ (c : Contents) (d : ℕ) where
  abbrev opened_so : Contents
  opened_so = with_open c d

  open_kept : c.inside ≡ false → Kept c opened_so
  open_kept e =
      let g : in_use c.count c.inside ≤ c.count + 1 = subst (λ (i : Bool). in_use c.count i ≤ c.count + 1) (sym e) (omega arith) in
      record { ended = omega arith; records_grow = g; bytes_grow = omega arith; records = stay_set c.records c.count (record { depth = d; start = c.used; length = 0 }); bytes = stay_all c.used c.used c.bytes (omega arith) }

  open_means : c.inside ≡ false → c.count < length c.records → means_by opened_so Running ≡ bottom_means store (store_permit c.records c.bytes) (told_by c.records c.bytes c.count c.inside ++ opened d ∷ []) (at c.count true) Running (min c.used most)
  open_means e h =
      let size = length-set c.records c.count (record { depth = d; start = c.used; length = 0 }) in
      let foot = foot_open c.records c.bytes c.count c.used d h ∙ ap (λ (i : Bool). told_by c.records c.bytes c.count i ++ opened d ∷ []) (sym e) in
      λ i. bottom_means store (holds (min (size i) most) (length c.bytes)) (foot i) (at c.count true) Running (min c.used most)

module _ (c : Contents) (b : ℕ) where
  abbrev texted : Contents
  texted = with_text c b

  text_kept : c.inside ≡ true → Kept c texted
  text_kept e =
      let s : Stay c.count (in_use c.count c.inside) c.records texted.records = subst (λ (i : Bool). Stay c.count (in_use c.count i) c.records texted.records) (sym e) (stay_set c.records c.count (longer (nth c.records c.count))) in
      record { ended = omega arith; records_grow = omega arith; bytes_grow = omega arith; records = s; bytes = stay_set c.bytes c.used b }

  text_means : c.inside ≡ true → Filed c.records c.bytes c.count c.inside c.used → c.used < length c.bytes → means_by texted Running ≡ bottom_means store (store_permit c.records c.bytes) (told_by c.records c.bytes c.count c.inside ++ text b ∷ []) (at c.count c.inside) Running (grown (min c.used most))
  text_means e f h =
      let size = length-set c.records c.count (longer (nth c.records c.count)) in
      let room = length-set c.bytes c.used b in
      let f' = subst (λ (i : Bool). Filed c.records c.bytes c.count i c.used) e f in
      let foot = ap (λ (i : Bool). told_by texted.records texted.bytes c.count i) e ∙ foot_text c.records c.bytes c.count c.used b f' h ∙ ap (λ (i : Bool). told_by c.records c.bytes c.count i ++ text b ∷ []) (sym e) in
      let place : min (c.used + 1) most ≡ grown (min c.used most) = omega arith in
      λ i. bottom_means store (holds (min (size i) most) (room i)) (foot i) (at c.count c.inside) Running (place i)

module _ (c : Contents) where
  end_kept : c.inside ≡ true → Kept c (with_end c)
  end_kept e =
      let g : in_use c.count c.inside ≤ c.count + 1 = subst (λ (i : Bool). in_use c.count i ≤ c.count + 1) (sym e) (omega arith) in
      record { ended = omega arith; records_grow = g; bytes_grow = omega arith; records = stay_all c.count (c.count + 1) c.records (omega arith); bytes = stay_all c.used c.used c.bytes (omega arith) }

  end_means : c.inside ≡ true → c.count < length c.records → means_by (with_end c) Running ≡ bottom_means store (store_permit c.records c.bytes) (told_by c.records c.bytes c.count c.inside ++ ended ∷ []) (at (c.count + 1) false) Running (min c.used most)
  end_means e h =
      let foot = foot_end c.records c.bytes c.count h ∙ ap (λ (i : Bool). told_by c.records c.bytes c.count i ++ ended ∷ []) (sym e) in
      λ i. bottom_means store (store_permit c.records c.bytes) (foot i) (at (c.count + 1) false) Running (min c.used most)

module _ (a : Store) (run : a.phase ≡ Running) where
  abbrev records : List Record
  records = vec_items a.records

  abbrev bytes : List ℕ
  bytes = vec_items a.bytes

  abbrev foot : List Event
  foot = told_by records bytes a.count a.inside

  abbrev outside : a.inside ≡ false → in_use a.count a.inside ≡ a.count
  outside e = ap (in_use a.count) e

  shut_means : (b : Store) (c : Contents) → contents b ≡ c → b.phase ≡ a.phase → meant b ≡ means_by c Running
  shut_means b c e p = λ i. means_by (e i) (phased own_fault ((p ∙ run) i))

  pub open_took : (d : ℕ) → own_answer (store_step a.count a.inside (opens d)) ≡ Ok tt → (b : Store) (n : ℕ) → Opened a b d n → Took a b (opens d)
  open_took d q b n h =
      let s = open_step a.count a.inside d q in
      let r = h.room in
      let o = foot_opens records bytes a.count a.inside a.used (filed a) in
      let u = outside s.0 in
      let free = room_none (ltb (opens_in foot) (min (length records) most)) foot (lt-ltb (opens_in foot) (min (length records) most) (omega arith)) in
      took_by a (opens d) run (opened d ∷ []) (at a.count true) s.1 (foot ++ opened d ∷ []) (one_more (permit_of a).bars foot (opened d) free) b (subst (λ (x : Contents). Kept (contents a) x) (sym h.holds) (open_kept (contents a) d s.0)) (shut_means b (with_open (contents a) d) h.holds h.phase ∙ open_means (contents a) d s.0 (omega arith))

  pub open_full : (d : ℕ) → own_answer (store_step a.count a.inside (opens d)) ≡ Ok tt → min (length records) most ≤ a.count → (b : Store) (f : OwnFault) → Turned a b Full f → RefusedSo a b (opens d) f
  open_full d q k b f w =
      let s = open_step a.count a.inside d q in
      let o = foot_opens records bytes a.count a.inside a.used (filed a) in
      let u = outside s.0 in
      full_by a (opens d) run (opened d) (at a.count true) s.1 (no_room (ltb (opens_in foot) (min (length records) most)) foot a.used (le-ltb (opens_in foot) (min (length records) most) (omega arith)) (foot_texts records bytes a.count a.inside a.used (filed a))) b f w

  pub text_took : (x : ℕ) → own_answer (store_step a.count a.inside (texts x)) ≡ Ok tt → (b : Store) → Wrote a b x → Took a b (texts x)
  text_took x q b h =
      let s = text_step a.count a.inside x q in
      let r = h.room in
      let t = foot_texts records bytes a.count a.inside a.used (filed a) in
      let free = room_none (ltb (texts_in foot) (length bytes)) foot (lt-ltb (texts_in foot) (length bytes) (omega arith)) in
      took_by a (texts x) run (text x ∷ []) (at a.count a.inside) s.1 (foot ++ text x ∷ []) (one_more (permit_of a).bars foot (text x) free) b (subst (λ (y : Contents). Kept (contents a) y) (sym h.holds) (text_kept (contents a) x s.0)) (shut_means b (with_text (contents a) x) h.holds h.phase ∙ text_means (contents a) x s.0 (filed a) (omega arith))

  pub text_full : (x : ℕ) → own_answer (store_step a.count a.inside (texts x)) ≡ Ok tt → length bytes ≤ a.used → (b : Store) (f : OwnFault) → Turned a b Full f → RefusedSo a b (texts x) f
  text_full x q k b f w =
      let s = text_step a.count a.inside x q in
      let t = foot_texts records bytes a.count a.inside a.used (filed a) in
      full_by a (texts x) run (text x) (at a.count a.inside) s.1 (no_room (ltb (texts_in foot) (length bytes)) foot a.used (le-ltb (texts_in foot) (length bytes) (omega arith)) t) b f w

  pub end_took : (n : ℕ) → own_answer (store_step a.count a.inside (ends n)) ≡ Ok tt → (b : Store) → Ended a b → Took a b (ends n)
  end_took n q b h =
      let s = end_step a.count a.inside n q in
      let f = (filed a).few in
      let u = ap (in_use a.count) s.0 in
      took_by a (ends n) run (ended ∷ []) (at (a.count + 1) false) s.1 (foot ++ ended ∷ []) refl b (subst (λ (y : Contents). Kept (contents a) y) (sym h.holds) (end_kept (contents a) s.0)) (shut_means b (with_end (contents a)) h.holds h.phase ∙ end_means (contents a) s.0 (omega arith))

  pub finish_took : own_answer (store_step a.count a.inside finishes) ≡ Ok tt → (b : Store) → contents b ≡ contents a → b.phase ≡ Closed → Took a b finishes
  finish_took q b c p =
      let s = finish_step a.count a.inside q in
      took_by a finishes run [] (at a.count a.inside) s.1 foot refl b (subst (λ (y : Contents). Kept (contents a) y) (sym c) (kept_same (contents a))) (λ i. means_by (c i) (phased own_fault (p i)))
