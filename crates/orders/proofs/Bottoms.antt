-- What orders do to a taker with nothing below it, at each phase.
use Rattle.std.proofs.Common.{◌≡◌, ℕ, Bool, true, false, cond, List, [], ◌∷◌, Some, None, Option, Err, sym, refl, ap, ◌∙◌, subst, arith}
use Rattle.fault.specs.declared.fault.Fault.{Fault}
use Rattle.fault.specs.declared.cause.Cause.{Cause}
use Rattle.fault.specs.declared.cause.Cause.TheVariants.{AfterClose, AfterShut}
use Rattle.fault.specs.Faults.{own, leaves}
use Rattle.fault.specs.Answers.{arisen}
use Rattle.orders.specs.declared.phase.Phase.{Phase}
use Rattle.orders.specs.declared.phase.Phase.TheVariants.{Running, Closed, Shut}
use Rattle.orders.specs.Meaning.{Kind, Permit, Meaning, refuses}
use Rattle.orders.specs.Permits.{Filled, fill, Permitted}
use Rattle.orders.specs.Steps.{finished, if_closing, reached, adds_on, says_on, settled, stays, shuts, mild, after, verdict, place_on}
use Rattle.orders.specs.Laws.{Sound, Hard}
use Rattle.orders.specs.Phases.{phased, gone, stands, running}
use Rattle.orders.specs.Bottom.{Bottom, Step, takes, stops, state_on, state_after, stepped, run, run_on, bottom_adds, bottom_says, bottom_fresh, bottom_means, Stirs}
use Rattle.orders.proofs.Did.{Did}
use Rattle.orders.proofs.Refusing.{refused, refused_stays, refused_shuts}

module _ {k : Kind} {E : Type 0} (a : Bottom k E) (p : Permit E) (foot : List E) (s : a.St) {F : Type 0} (fl : F → Fault) (ph : Phase F) (n : ℕ) (o : k.Order) where
  abbrev here : Meaning k E
  here = bottom_means a p foot s (phased fl ph) n

  abbrev live : Meaning k E
  live = bottom_means a p foot s Running n

  pub in_closed : ph ≡ Closed → Did here here o (Some (own AfterClose a.layer n))
  in_closed e = rw e (record { tells = refused (bottom_means a p foot s Closed n) o (own AfterClose a.layer n) refl; leads = refused_stays (bottom_means a p foot s Closed n) o (own AfterClose a.layer n) refl refl })

  pub in_shut : (x : F) → ph ≡ Shut x → Did here here o (Some (own AfterShut a.layer n))
  in_shut x e = rw e (record { tells = refused (bottom_means a p foot s (Shut (fl x)) n) o (own AfterShut a.layer n) refl; leads = refused_stays (bottom_means a p foot s (Shut (fl x)) n) o (own AfterShut a.layer n) refl refl })

  -- refused, since it was closed or shut
  pub in_over : (f : Fault) → arisen a.layer n (running ph) ≡ Err f → Did here here o (Some f)
  in_over f = go ph refl
    where
      go : (x : Phase F) → ph ≡ x → arisen a.layer n (running x) ≡ Err f → Did here here o (Some f)
      go Running q e = let z : ◌≡◌ {A = ℕ} 0 1 = cc in absurd (omega arith)
      go Closed q e = let is : own AfterClose a.layer n ≡ f = cc in subst (λ (y : Fault). Did here here o (Some y)) is (in_closed q)
      go (Shut x) q e = let is : own AfterShut a.layer n ≡ f = cc in subst (λ (y : Fault). Did here here o (Some y)) is (in_shut x q)

  own_adds : (c : Cause) → a.step s o ≡ stops c → live.adds [] o ≡ record { items = []; fault = Some (own c a.layer n) }
  own_adds c e = ap (λ (x : Step a.St E). stepped a x n) e

  -- a refusal of its own that leaves all as it was
  pub in_mild : ph ≡ Running → (c : Cause) → a.step s o ≡ stops c → leaves c ≡ true → Did here here o (Some (own c a.layer n))
  in_mild e c q h = rw e (record { tells = refused live o (own c a.layer n) (own_adds c q); leads = refused_stays live o (own c a.layer n) (own_adds c q) h })

  -- a refusal of its own that shuts
  pub in_own : ph ≡ Running → (c : Cause) → a.step s o ≡ stops c → leaves c ≡ false → (u : a.St) → Did here (bottom_means a p foot u (Shut (own c a.layer n)) n) o (Some (own c a.layer n))
  in_own e c q h u = rw e (record { tells = refused live o (own c a.layer n) (own_adds c q); leads = refused_shuts live o (own c a.layer n) (own_adds c q) h })

  module _ (e : ph ≡ Running) (es : List E) (t : a.St) (q : a.step s o ≡ takes es t) where
    reach : reached live o ≡ finished p.ending (k.closes o) None (fill p.bars foot es)
    reach = ap (λ (x : Step a.St E). finished p.ending (k.closes o) (stepped a x n).fault (fill p.bars foot (stepped a x n).items)) q

    -- refused by the permit
    pub in_barred : (l : List E) (f : Fault) → fill p.bars foot es ≡ record { list = l; fault = Some f } → mild f ≡ false → (u : a.St) → Did here (bottom_means a p l u (Shut f) n) o (Some f)
    unfolding after verdict
    in_barred l f h hard u =
        let r = reach ∙ ap (finished p.ending (k.closes o) None) h in
        rw e (record { tells = ap (λ (w : Filled E). w.fault) r; leads = sym (ap (λ (w : Filled E). settled live o w.fault w.list) r ∙ ap (λ (x : Bool). cond x (stays live l) (shuts live f l)) hard) })

    n' : ℕ
    n' = place_on (k.counts o) n

    adds_is : (c : Bool) → k.closes o ≡ c → adds_on c o live ≡ bottom_adds a (gone c) n' t
    unfolding n'
    adds_is true w = refl
    adds_is false w =
        ap (λ (z : Bool). λ x r. run_on a (a.step s o) z n (place_on (k.counts o) n) (λ y u. run a y u x) r) w
        ∙ ap (λ (z : Step a.St E). λ x r. run_on a z false n (place_on (k.counts o) n) (λ y u. run a y u x) r) q

    says_is : (c : Bool) → says_on c o live ≡ bottom_says a (gone c) t
    says_is true = refl
    says_is false = ap (λ (z : Step a.St E). λ x. a.tells (state_after a (state_on z s) x)) q

    fresh_is : Stirs a → (c : Bool) → k.closes o ≡ c → bottom_fresh a (gone c) t ≡ false
    fresh_is st true w = refl
    fresh_is st false w = st s o es t w q

    stands_is : (c : Bool) → stands (gone c) ≡ None
    stands_is true = refl
    stands_is false = refl

    -- accepted
    pub in_taken : Stirs a → (l : List E) → fill p.bars foot es ≡ record { list = l; fault = None } → if_closing (k.closes o) (p.ending l) ≡ None → Did here (bottom_means a p l t (gone (k.closes o)) (place_on (k.counts o) n)) o None
    unfolding after verdict n'
    in_taken st l h z =
        let c = k.closes o in
        let r : reached live o ≡ record { list = l; fault = None } = reach ∙ ap (finished p.ending c None) h ∙ ap (λ (v : Option Fault). record { list = l; fault = v }) z in
        let A = adds_is c refl in
        let S = says_is c in
        let R = fresh_is st c refl in
        let T = stands_is c in
        rw e (record {
          tells = ap (λ (w : Filled E). w.fault) r;
          leads = sym (ap (λ (w : Filled E). settled live o w.fault w.list) r ∙ (λ i. record { fixed = live.fixed; foot = l; adds = A i; says = S i; fresh = sym R i; place = place_on (k.counts o) n; standing = sym T i }));
        })

-- it keeps what every taker keeps
module _ {k : Kind} {E : Type 0} (a : Bottom k E) (p : Permit E) (hard : Hard p) (foot : List E) (within : Permitted p.bars foot) (s : a.St) (n : ℕ) (bare : a.ready s ≡ true → foot ≡ []) where
  empty : (ph : Phase Fault) → bottom_fresh a ph s ≡ true → foot ≡ []
  empty Running e = bare e
  empty Closed e = let z : ◌≡◌ {A = ℕ} 0 1 = cc in absurd (omega arith)
  empty (Shut f) e = let z : ◌≡◌ {A = ℕ} 0 1 = cc in absurd (omega arith)

  over_on : (x : Step a.St E) (c : Bool) (o q : k.Order) (r : List k.Order) → c ≡ true → (stepped a x n).fault ≡ None → run_on a x c n (place_on (k.counts o) n) (λ y u. run a y u r) q ≡ refuses (own AfterClose a.layer (place_on (k.counts o) n)) r q
  over_on (takes es t) true o q r c e = refl
  over_on (takes es t) false o q r c e = let z : ◌≡◌ {A = ℕ} 0 1 = cc in absurd (omega arith)
  over_on (stops x) y o q r c e = let z : ◌≡◌ {A = ℕ} 0 1 = cc in absurd (omega arith)

  over : (ph : Phase Fault) (o : k.Order) → k.closes o ≡ true → (bottom_adds a ph n s [] o).fault ≡ None → (r : List k.Order) (q : k.Order) → bottom_adds a ph n s (o ∷ r) q ≡ refuses (own AfterClose a.layer (place_on (k.counts o) n)) r q
  over Running o c e r q = over_on (a.step s o) (k.closes o) o q r c e
  over Closed o c e r q = let z : ◌≡◌ {A = ℕ} 0 1 = cc in absurd (omega arith)
  over (Shut f) o c e r q = let z : ◌≡◌ {A = ℕ} 0 1 = cc in absurd (omega arith)

  pub bottom_sound : (ph : Phase Fault) → Sound (bottom_means a p foot s ph n)
  bottom_sound ph = record { empty = empty ph; within = within; hard = hard; over = over ph }
