-- A store keeps the law of paragraph takers.
use Rattle.std.specs.Prelude.{◌≡◌, ℕ, ◌+◌, ◌≤◌, min, Bool, true, false, not, ◌&&◌, ◌⊎◌, List, [], ◌∷◌, ◌++◌, length, Some, None, ◌==◌, nat_le, nat_lt}
use Rattle.std.proofs.Math.Path.{refl}
use Rattle.std.proofs.Common.{sym, ap, ◌∙◌, inl, inr, arith, eqb-true}
use Rattle.fault.specs.declared.fault.Fault.{Fault}
use Rattle.fault.specs.declared.cause.Cause.{Cause}
use Rattle.fault.specs.declared.cause.Cause.TheVariants.{Full, NoParagraph, AfterClose, AfterShut, BarredByte, WrongNumber, TooDeep}
use Rattle.fault.specs.declared.layer.Layer.TheVariants.{Store}
use Rattle.fault.specs.Faults.{own, leaves, most}
use Rattle.orders.specs.declared.phase.Phase.{Phase}
use Rattle.orders.specs.declared.phase.Phase.TheVariants.{Running, Closed, Shut}
use Rattle.orders.specs.Permits.{Filled, fill, filled}
use Rattle.orders.specs.Steps.{place_on, verdict, finished, mild}
use Rattle.orders.specs.Laws.{Hard}
use Rattle.orders.specs.Bottom.{Step, takes, stops, state_on, state_after, stepped, run, run_on}
use Rattle.orders.proofs.Bottoms.{bottom_sound}
use Rattle.orders.proofs.Refusing.{refused, refused_stays}
use Rattle.taker.specs.Paragraph.{Order, opens, texts, ends, gives_up, finishes, closes, counts, Taker, barred}
use Rattle.taker.specs.Law.{Lawful, more, Numbered, Deaf, Hearing}
use Rattle.taker.specs.Law.{opened as numbered_after}
use Rattle.store.specs.declared.record.Record.{Record}
use Rattle.store.specs.Events.{Event, opened, text, ended, if_room, holds_event, holds, told_by, texts_in, opens_in, in_use}
use Rattle.store.specs.Store.{Pages, at, unless, store_step, store, store_means}
use Rattle.store.specs.Foot.{Filed, foot_permitted}

full_hard : (x : Bool) (p : List Event) (f : Fault) → if_room x p ≡ Some f → leaves f.cause ≡ false
full_hard true p f e = let z : ◌≡◌ {A = ℕ} 0 1 = cc in absurd (omega arith)
full_hard false p f e = let q : own Full Store (min (texts_in p) most) ≡ f = cc in ap (λ (g : Fault). leaves g.cause) (sym q)

holds_hard : (r n : ℕ) → Hard (holds r n)
holds_hard r n = record { bars = barring; ending = λ l f e. let z : ◌≡◌ {A = ℕ} 0 1 = cc in absurd (omega arith) }
  where
    barring : (l : List Event) (x : Event) (f : Fault) → holds_event r n l x ≡ Some f → leaves f.cause ≡ false
    barring l (opened d) f e = full_hard (nat_lt (opens_in l) r) l f e
    barring l (text b) f e = full_hard (nat_lt (texts_in l) n) l f e
    barring l ended f e = let z : ◌≡◌ {A = ℕ} 0 1 = cc in absurd (omega arith)

pub unless_takes : (x : Bool) (c : Cause) (y : Step Pages Event) (es : List Event) (t : Pages) → unless x c y ≡ takes es t → y ≡ takes es t
unless_takes true c y es t e = let z : ◌≡◌ {A = ℕ} 0 1 = cc in absurd (omega arith)
unless_takes false c y es t e = e

-- an accepted order counts the paragraphs on
step_counts : (n : ℕ) (i : Bool) (o : Order) (es : List Event) (t : Pages) → store_step n i o ≡ takes es t → in_use t.count t.inside ≡ more o (in_use n i)
step_counts n true (opens d) es t e = let z : ◌≡◌ {A = ℕ} 0 1 = cc in absurd (omega arith)
step_counts n true (texts b) es t e = let q = unless_takes (barred b) BarredByte _ es t e in let w : at n true ≡ t = cc in ap (λ (x : Pages). in_use x.count x.inside) (sym w)
step_counts n true (ends k) es t e = let q = unless_takes (not (k == n + 1)) WrongNumber _ es t e in let w : at (n + 1) false ≡ t = cc in ap (λ (x : Pages). in_use x.count x.inside) (sym w)
step_counts n true (gives_up k) es t e = let q = unless_takes (not (k == n + 1)) WrongNumber _ es t e in let z : ◌≡◌ {A = ℕ} 0 1 = cc in absurd (omega arith)
step_counts n true finishes es t e = let z : ◌≡◌ {A = ℕ} 0 1 = cc in absurd (omega arith)
step_counts n false (opens d) es t e = let q = unless_takes (not (nat_le d 100)) TooDeep _ es t e in let w : at n true ≡ t = cc in ap (λ (x : Pages). in_use x.count x.inside) (sym w)
step_counts n false (texts b) es t e = let z : ◌≡◌ {A = ℕ} 0 1 = cc in absurd (omega arith)
step_counts n false (ends k) es t e = let z : ◌≡◌ {A = ℕ} 0 1 = cc in absurd (omega arith)
step_counts n false (gives_up k) es t e = let z : ◌≡◌ {A = ℕ} 0 1 = cc in absurd (omega arith)
step_counts n false finishes es t e = let w : at n false ≡ t = cc in ap (λ (x : Pages). in_use x.count x.inside) (sym w)

-- an open is accepted only with none open
opens_outside : (n : ℕ) (i : Bool) (d pl : ℕ) → (stepped store (store_step n i (opens d)) pl).fault ≡ None → in_use n i ≡ n
opens_outside n false d pl e = refl
opens_outside n true d pl e = let z : ◌≡◌ {A = ℕ} 0 1 = cc in absurd (omega arith)

counted : (p : List Order) (pl : ℕ) (s : Pages) (d : ℕ) → (run store pl s p (opens d)).fault ≡ None → (state_after store s p).count ≡ numbered_after (in_use s.count s.inside) p
counted [] pl s d e = sym (opens_outside s.count s.inside d pl e)
counted (q ∷ p) pl s d e = go (store.step s q) refl (closes q) (λ x t. counted p x t d) e
  where
    go : (st : Step Pages Event) → store.step s q ≡ st → (c : Bool) → ((x : ℕ) (t : Pages) → (run store x t p (opens d)).fault ≡ None → (state_after store t p).count ≡ numbered_after (in_use t.count t.inside) p) → (run_on store st c pl (place_on (counts q) pl) (λ x t. run store x t p) (opens d)).fault ≡ None → (state_after store (state_on (store.step s q) s) p).count ≡ numbered_after (more q (in_use s.count s.inside)) p
    go (stops x) w c ih f = let z : ◌≡◌ {A = ℕ} 0 1 = cc in absurd (omega arith)
    go (takes es t) w true ih f = let z : ◌≡◌ {A = ℕ} 0 1 = cc in absurd (omega arith)
    go (takes es t) w false ih f =
        ap (λ (st : Step Pages Event). (state_after store (state_on st s) p).count) w
        ∙ ih (place_on (counts q) pl) t f
        ∙ ap (λ (x : ℕ). numbered_after x p) (step_counts s.count s.inside q es t w)

module _ (records : List Record) (bytes : List ℕ) (n used : ℕ) where
  abbrev m : Bool → Phase Fault → Taker Event
  m i ph = store_means records bytes n i used ph

  numbered : (i : Bool) (ph : Phase Fault) → Numbered (m i ph) (in_use n i)
  numbered i Running p d e = ap (λ (x : ℕ). x + 1) (counted p (min used most) (at n i) d e)
  numbered i Closed p d e = let z : ◌≡◌ {A = ℕ} 0 1 = cc in absurd (omega arith)
  numbered i (Shut f) p d e = let z : ◌≡◌ {A = ℕ} 0 1 = cc in absurd (omega arith)

  hearing : Hearing (m true Running)
  unfolding verdict
  hearing b f e = go (barred b) refl e
    where
      foot : List Event
      foot = told_by records bytes n true

      at_step : Step Pages Event → Filled Event
      at_step s = finished (λ p. None) false (stepped store s (min used most)).fault (fill (holds_event (min (length records) most) (length bytes)) foot (stepped store s (min used most)).items)

      full : (x : Bool) → (finished (λ p. None) false None (filled (if_room x foot) foot (record { list = foot ++ text b ∷ []; fault = None }))).fault ≡ Some f → mild f ≡ false
      full true h = let z : ◌≡◌ {A = ℕ} 0 1 = cc in absurd (omega arith)
      full false h = let q : own Full Store (min (texts_in foot) most) ≡ f = cc in ap mild (sym q)

      go : (x : Bool) → barred b ≡ x → (at_step (unless x BarredByte (takes (text b ∷ []) (at n true)))).fault ≡ Some f → mild f ≡ false
      go true q h = let w : own BarredByte Store (min used most) ≡ f = cc in ap mild (sym w)
      go false q h = full (nat_lt (texts_in foot) (length bytes)) h

  uniform : (i : Bool) (ph : Phase Fault) → Deaf (m i ph) ⊎ Hearing (m i ph)
  uniform false Running = inl (λ b. (own NoParagraph Store (min used most), (refused (m false Running) (texts b) (own NoParagraph Store (min used most)) refl, refused_stays (m false Running) (texts b) (own NoParagraph Store (min used most)) refl refl)))
  uniform true Running = inr hearing
  uniform i Closed = inl (λ b. (own AfterClose Store (min used most), (refused (m i Closed) (texts b) (own AfterClose Store (min used most)) refl, refused_stays (m i Closed) (texts b) (own AfterClose Store (min used most)) refl refl)))
  uniform i (Shut f) = inl (λ b. (own AfterShut Store (min used most), (refused (m i (Shut f)) (texts b) (own AfterShut Store (min used most)) refl, refused_stays (m i (Shut f)) (texts b) (own AfterShut Store (min used most)) refl refl)))

  bare : (i : Bool) → (not i && n == 0) ≡ true → told_by records bytes n i ≡ []
  bare true e = let z : ◌≡◌ {A = ℕ} 0 1 = cc in absurd (omega arith)
  bare false e = let q = eqb-true n 0 e in ap (λ (x : ℕ). told_by records bytes x false) q

-- its records in use lie behind one another, within its bytes
pub store_lawful : (records : List Record) (bytes : List ℕ) (n used : ℕ) (i : Bool) (ph : Phase Fault) → Filed records bytes n i used → in_use n i ≤ most → Lawful (store_means records bytes n i used ph)
store_lawful records bytes n used i ph h k =
    let f = h.few in
    let limit = min (length records) most in
    let few : in_use n i ≤ limit = omega arith in
    record {
      sound = bottom_sound store (holds limit (length bytes)) (holds_hard limit (length bytes)) (told_by records bytes n i) (foot_permitted records bytes n i used limit h few) (at n i) (min used most) (bare records bytes n used i) ph;
      before = in_use n i;
      numbered = numbered records bytes n used i ph;
      uniform = uniform records bytes n used i ph;
    }
