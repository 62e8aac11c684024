-- What a fresh sink accepted and closed on comes back, and the comparison finds nothing.
use Rattle.std.proofs.Common.{◌≡◌, ℕ, true, false, List, [], ◌∷◌, None, Ok, Option, Result, sym, refl, ap, ◌∙◌, subst, arith}
use Rattle.fault.specs.declared.fault.Fault.{Fault}
use Rattle.fault.specs.Answers.{answer}
use Rattle.orders.specs.declared.phase.Phase.TheVariants.{Running}
use Rattle.orders.specs.Steps.{after, verdict, shown, finished}
use Rattle.orders.specs.Lists.{sent, sent_on, sent_fault, ran}
use Rattle.orders.specs.Permits.{Filled, fill}
use Rattle.orders.specs.Meaning.{Added, bars, ending}
use Rattle.orders.proofs.Appending.{sent_fault_append}
use Rattle.orders.proofs.Fills.{both_none}
use Rattle.orders.proofs.Sending.{ran_reach}
use Rattle.undo.specs.Undoing.{Undoing, next, taken_by, undone}
use Rattle.undo.proofs.Compose.{Back, back, First, nothing, a_byte, first}
use Rattle.sink.specs.Sink.{Sink, put, close, down}
use Rattle.sink.specs.Law.{Accepts, Lawful}
use Rattle.sink.proofs.Going.{down_going, down_close}
use Rattle.ends.specs.Lawful.{adds_whole, whole_matches, whole_ends}
use Rattle.ends.specs.Ends.{compare_means}
use Rattle.carry.specs.Back.{Passed, passed, passed_on, stop_at, sink_at, at_sink, returned, answer_at, closed_by}
use Rattle.carry.proofs.Sending.{then_closed}

-- the bytes went through, and the undoing may stop behind them
record Through (p : Passed) (n : Sink) : Type 0 where
  stop : p.stop ≡ None
  sink : p.sink ≡ n
  undone : p.undoing.stop [] ≡ None

abbrev Goes : List ℕ → Type 0
Goes wire = (u : Undoing) (m : Sink) (bs : List ℕ) → Back (undone u wire) bs wire → sent_fault m (down bs false) ≡ None → Through (passed u m wire) (sent m (down bs false))

module _ (u : Undoing) (m : Sink) (b : ℕ) (wire : List ℕ) (rec : Goes wire) where
  abbrev on : Result (Option ℕ) Fault → Passed
  on a = passed_on (stop_at a m) (taken_by a b u) (sink_at a m) (passed (taken_by a b u) (sink_at a m) wire)

  through_one : (bs : List ℕ) → First (u.takes [] b) (undone (next b u) wire) wire bs → sent_fault m (down bs false) ≡ None → Through (passed u m (b ∷ wire)) (sent m (down bs false))
  through_one bs (nothing e r) h =
      let t = rec (next b u) m bs r h in
      subst (λ (a : Result (Option ℕ) Fault). Through (on a) (sent m (down bs false))) (sym e) (record { stop = t.stop; sink = t.sink; undone = t.undone })
  through_one bs (a_byte {c = c} {bs = cs} e r) h =
      let d = both_none (verdict m (put c)) (sent_fault (after m (put c)) (down cs false)) h in
      let t = rec (next b u) (after m (put c)) cs r d.1 in
      let n : sent m (down (c ∷ cs) false) ≡ sent (after m (put c)) (down cs false) = ap (λ (v : Option Fault). sent_on v (after m (put c)) (sent (after m (put c)) (down cs false))) d.0 in
      let q : Option Fault → Passed = λ v. passed_on (at_sink v) (next b u) (after m (put c)) (passed (next b u) (after m (put c)) wire) in
      let z : Through (q None) (sent m (down (c ∷ cs) false)) = record { stop = t.stop; sink = t.sink ∙ sym n; undone = t.undone } in
      subst (λ (a : Result (Option ℕ) Fault). Through (on a) (sent m (down (c ∷ cs) false))) (sym e) (subst (λ (v : Option Fault). Through (q v) (sent m (down (c ∷ cs) false))) (sym d.0) z)

goes : (wire : List ℕ) → Goes wire
goes [] u m [] k h = record { stop = refl; sink = refl; undone = k.stop }
goes [] u m (c ∷ bs) k h = let q = k.given in let z : ◌≡◌ {A = ℕ} 0 1 = cc in absurd (omega arith)
goes (b ∷ wire) u m bs k h = through_one u m b wire (goes wire) bs (first (u.takes [] b) (undone (next b u) wire) b wire bs k) h

-- over a sink that accepts the bytes and a close
pub through_all : (u : Undoing) (m : Sink) (wire bs foot : List ℕ) → Back (undone u wire) bs wire → ran m (down bs true) ≡ record { list = foot; fault = None } → returned (passed u m wire) ≡ Ok (shown foot)
through_all u m wire bs foot k e =
    let n = sent m (down bs false) in
    let f : sent_fault m (down bs true) ≡ None = ap (λ (w : Filled ℕ). w.fault) e in
    let none = both_none (sent_fault m (down bs false)) (sent_fault n (close ∷ [])) (sym (ap (sent_fault m) (down_close bs) ∙ sent_fault_append m (down bs false) (close ∷ [])) ∙ f) in
    let d = then_closed m bs none.0 in
    let t = goes wire u m bs k none.0 in
    let v : verdict n close ≡ None = sym d.0 ∙ f in
    let l : (after n close).foot ≡ foot = ap (λ (x : Sink). x.foot) (sym d.1) ∙ ap (λ (w : Filled ℕ). w.list) e in
    (λ i. answer_at (t.stop i) (t.undone i) (t.sink i)) ∙ (λ i. closed_by (answer (shown (l i)) (v i)))

-- a comparing end takes its reference, and closes on it
pub compared : (ref : List ℕ) → ran (compare_means ref 0 Running) (down ref true) ≡ record { list = ref; fault = None }
compared ref =
    let m = compare_means ref 0 Running in
    ran_reach m (down ref true) true (down_going ref true)
    ∙ ap (λ (a : Added ℕ). finished (ending m.fixed) true a.fault (fill (bars m.fixed) [] a.items)) (adds_whole 0 ref)
    ∙ ap (λ (w : Filled ℕ). finished (ending m.fixed) true None w) (whole_matches ref)
    ∙ ap (λ (v : Option Fault). record { list = ref; fault = v }) (whole_ends ref)

-- what a fresh sink accepted and closed on comes back through its fresh undoing pile, and is what was sent
pub comes_back : (m : Sink) → Lawful m → m.fresh ≡ true → (bs foot : List ℕ) → Accepts m bs foot → returned (passed m.fixed.also (compare_means bs 0 Running) foot) ≡ Ok (shown bs)
comes_back m h fr bs foot a = through_all m.fixed.also (compare_means bs 0 Running) foot bs bs (back (undone m.fixed.also foot) bs foot (h.back fr bs foot a)) (compared bs)
