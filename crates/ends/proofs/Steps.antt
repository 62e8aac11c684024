-- What orders do to an end.
use Rattle.std.proofs.Common.{◌≡◌, ℕ, ◌+◌, Bool, true, false, cond, eqb, List, [], ◌∷◌, ◌++◌, length, Some, None, Err, Option, Result, sym, refl, ap, ◌∙◌, ap₂, subst, arith, ne_eqb}
use Rattle.std.proofs.lemmas.List.{length_push}
use Rattle.fault.specs.declared.fault.Fault.{Fault}
use Rattle.fault.specs.declared.cause.Cause.{Cause}
use Rattle.fault.specs.declared.cause.Cause.TheVariants.{AfterClose, AfterShut}
use Rattle.fault.specs.declared.layer.Layer.TheVariants.{End}
use Rattle.fault.specs.Faults.{own, leaves}
use Rattle.fault.specs.Answers.{arisen}
use Rattle.orders.specs.declared.phase.Phase.{Phase}
use Rattle.orders.specs.declared.phase.Phase.TheVariants.{Running, Closed, Shut}
use Rattle.orders.specs.Meaning.{Permit}
use Rattle.orders.specs.Permits.{Filled, filled}
use Rattle.orders.specs.Steps.{grown, after, verdict, shown, reached, finished, settled, stays, shuts, mild}
use Rattle.orders.specs.Phases.{phased, running}
use Rattle.orders.proofs.Did.{Did}
use Rattle.orders.proofs.Refusing.{refused, refused_stays}
use Rattle.sink.specs.Sink.{Order, put, close, Sink}
use Rattle.ends.specs.Ends.{end_means, running_adds}

stays_refused : (m : Sink) (o : Order) (c : Cause) (n : ℕ) (f : Fault) → m.adds [] o ≡ record { items = []; fault = Some (own c End n) } → leaves c ≡ true → ◌≡◌ {A = Result (Unit {0}) Fault} (Err f) (arisen {T = Unit {0}} End n (Err c)) → Did m m o (Some f)
stays_refused m o c n f e h q =
    let g : own c End n ≡ f = cc in
    subst (λ (x : Fault). Did m m o (Some x)) g (record { tells = refused m o (own c End n) e; leads = refused_stays m o (own c End n) e h })

-- closed or shut
pub in_over : (p : Permit ℕ) (foot : List ℕ) {F : Type 0} (fl : F → Fault) (ph : Phase F) (o : Order) (f : Fault) → Err f ≡ arisen End (shown foot) (running ph) → Did (end_means p foot (phased fl ph)) (end_means p foot (phased fl ph)) o (Some f)
in_over p foot fl Running o f e = let z : ◌≡◌ {A = ℕ} 0 1 = cc in absurd (omega arith)
in_over p foot fl Closed o f e = stays_refused (end_means p foot Closed) o AfterClose (shown foot) f refl refl e
in_over p foot fl (Shut x) o f e = stays_refused (end_means p foot (Shut (fl x))) o AfterShut (shown foot) f refl refl e

module _ (p : Permit ℕ) (foot : List ℕ) {F : Type 0} (fl : F → Fault) (ph : Phase F) where
  abbrev here : Sink
  here = end_means p foot (phased fl ph)

  abbrev at : Option Fault → ℕ → Filled ℕ
  at v b = finished p.ending false None (filled v foot (record { list = foot ++ (b ∷ []); fault = None }))

  -- a byte that is permitted
  pub in_taken : (b : ℕ) → ph ≡ Running → p.bars foot b ≡ None → Did here (end_means p (foot ++ (b ∷ [])) Running) (put b) None
  unfolding after verdict
  in_taken b e h =
      let m = end_means p foot Running in
      let r : reached m (put b) ≡ record { list = foot ++ (b ∷ []); fault = None } = ap (λ (v : Option Fault). at v b) h in
      let mk : ℕ → Bool → Sink = λ n f. record { fixed = m.fixed; foot = foot ++ (b ∷ []); adds = running_adds n; says = λ q o. 0; fresh = f; place = n; standing = None } in
      let more : length (foot ++ (b ∷ [])) ≡ length foot + 1 = length_push foot b in
      let q : grown (shown foot) ≡ shown (foot ++ (b ∷ [])) = omega arith in
      let f : false ≡ eqb (length (foot ++ (b ∷ []))) 0 = sym (ne_eqb _ _ (omega arith)) in
      rw e (record { tells = ap (λ (w : Filled ℕ). w.fault) r; leads = sym (ap (λ (w : Filled ℕ). settled m (put b) w.fault w.list) r ∙ ap₂ mk q f) })

  -- a byte that is barred
  pub in_barred : (b : ℕ) (f : Fault) → ph ≡ Running → p.bars foot b ≡ Some f → mild f ≡ false → Did here (end_means p foot (Shut f)) (put b) (Some f)
  unfolding after verdict
  in_barred b f e h hard =
      let m = end_means p foot Running in
      let r : reached m (put b) ≡ record { list = foot; fault = Some f } = ap (λ (v : Option Fault). at v b) h in
      rw e (record { tells = ap (λ (w : Filled ℕ). w.fault) r; leads = sym (ap (λ (w : Filled ℕ). settled m (put b) w.fault w.list) r ∙ ap (λ (x : Bool). cond x (stays m foot) (shuts m f foot)) hard) })

  pub in_finished : ph ≡ Running → p.ending foot ≡ None → Did here (end_means p foot Closed) close None
  unfolding after verdict
  in_finished e h =
      let m = end_means p foot Running in
      let r : reached m close ≡ record { list = foot; fault = None } = ap (λ (v : Option Fault). record { list = foot; fault = v }) h in
      rw e (record { tells = ap (λ (w : Filled ℕ). w.fault) r; leads = sym (ap (λ (w : Filled ℕ). settled m close w.fault w.list) r) })

  -- a close that is barred
  pub in_unfinished : (f : Fault) → ph ≡ Running → p.ending foot ≡ Some f → mild f ≡ false → Did here (end_means p foot (Shut f)) close (Some f)
  unfolding after verdict
  in_unfinished f e h hard =
      let m = end_means p foot Running in
      let r : reached m close ≡ record { list = foot; fault = Some f } = ap (λ (v : Option Fault). record { list = foot; fault = v }) h in
      rw e (record { tells = ap (λ (w : Filled ℕ). w.fault) r; leads = sym (ap (λ (w : Filled ℕ). settled m close w.fault w.list) r ∙ ap (λ (x : Bool). cond x (stays m foot) (shuts m f foot)) hard) })
