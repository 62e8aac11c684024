-- What the code of a layer comes to, at each phase.
use Rattle.std.proofs.Common.{◌≡◌, ℕ, Bool, true, false, cond, List, [], Some, None, Option, Err, sym, refl, ap, ◌∙◌, subst, arith}
use Rattle.orders.specs.declared.phase.Phase.{Phase}
use Rattle.orders.specs.declared.phase.Phase.TheVariants.{Running, Closed, Shut}
use Rattle.fault.specs.declared.fault.Fault.{Fault}
use Rattle.fault.specs.declared.cause.Cause.{Cause}
use Rattle.fault.specs.declared.cause.Cause.TheVariants.{AfterClose, AfterShut}
use Rattle.fault.specs.Faults.{leaves}
use Rattle.fault.specs.Faults.{own, raise}
use Rattle.fault.specs.Answers.{raised, arisen}
use Rattle.orders.specs.Meaning.{Kind, Meaning}
use Rattle.orders.specs.Steps.{after, value, shown, place_on}
use Rattle.orders.specs.Lists.{sent, sent_fault}
use Rattle.sink.specs.Sink.{Sink, down}
use Rattle.layer.specs.Layer.{Machine, sends, stops, Stirs, layer_means, layer_says}
use Rattle.orders.specs.Phases.{gone, phased, running}
use Rattle.orders.proofs.Did.{Did}
use Rattle.orders.proofs.Fills.{raised_none}
use Rattle.layer.proofs.Steps.{layer_verdict, layer_on, layer_shut, own_verdict, own_shut, own_stays, closed_verdict, closed_stays, shut_verdict, shut_stays}

module _ {k : Kind} (a : Machine k) {F : Type 0} (fl : F → Fault) (m : Sink) (s : a.St) (ph : Phase F) (n : ℕ) (o : k.Order) where
  abbrev here : Meaning k ℕ
  here = layer_means a m s (phased fl ph) n

  pub in_closed : ph ≡ Closed → Did here here o (Some (own AfterClose a.layer n))
  in_closed e = rw e (record { tells = closed_verdict a m s n o; leads = closed_stays a m s n o })

  pub in_shut : (x : F) → ph ≡ Shut x → Did here here o (Some (own AfterShut a.layer n))
  in_shut x e = rw e (record { tells = shut_verdict a m s n o (fl x); leads = shut_stays a m s n o (fl x) })

  -- refused, since it was closed or shut
  pub in_over : (f : Fault) → arisen a.layer n (running ph) ≡ Err f → Did here here o (Some f)
  in_over f = go ph refl
    where
      go : (x : Phase F) → ph ≡ x → arisen a.layer n (running x) ≡ Err f → Did here here o (Some f)
      go Running q e = let z : ◌≡◌ {A = ℕ} 0 1 = cc in absurd (omega arith)
      go Closed q e = let is : own AfterClose a.layer n ≡ f = cc in subst (λ (y : Fault). Did here here o (Some y)) is (in_closed q)
      go (Shut x) q e = let is : own AfterShut a.layer n ≡ f = cc in subst (λ (y : Fault). Did here here o (Some y)) is (in_shut x q)

  -- a refusal of its own that leaves all as it was
  pub in_mild : ph ≡ Running → (c : Cause) → a.move s o ≡ stops c → leaves c ≡ true → Did here here o (Some (own c a.layer n))
  in_mild e c q h = rw e (record { tells = own_verdict a m s n o c q; leads = own_stays a m s n o c q h })

  -- a refusal of its own that shuts
  pub in_own : ph ≡ Running → (c : Cause) → a.move s o ≡ stops c → leaves c ≡ false → (f : Fault) → f ≡ own c a.layer n → (u : a.St) → Did here (layer_means a m u (Shut f) n) o (Some f)
  in_own e c q h f r u = rw (e, r) (record { tells = own_verdict a m s n o c q; leads = own_shut a m s n o c q u h })

  -- what an accepted order answers
  pub ok_value : ph ≡ Running → (m' : Meaning k ℕ) → m' ≡ after here o → (c : Bool) → c ≡ k.closes o → (v : ℕ) → v ≡ a.tells s o → cond c (shown m'.foot) v ≡ value here o
  ok_value e m' l c q v t =
      let w : v ≡ here.says [] o = t ∙ ap (λ (x : Phase F). layer_says a (phased fl x) s [] o) (sym e) in
      λ i. cond (q i) (shown (l i).foot) (w i)

  module _ (e : ph ≡ Running) (bs : List ℕ) (s' : a.St) (q : a.move s o ≡ sends bs s') (m' : Sink) (r : m' ≡ sent m (down bs (k.closes o))) where
    abbrev fault : Option Fault
    fault = sent_fault m (down bs (k.closes o))

    -- accepted below
    pub in_ok : Stirs a → raised fault ≡ None → (ph' : Phase Fault) → ph' ≡ gone (k.closes o) → (n' : ℕ) → n' ≡ place_on (k.counts o) n → Did here (layer_means a m' s' ph' n') o None
    in_ok st h ph' p n' t = rw (e, r, p, t) (record { tells = layer_verdict a m s n o bs s' q ∙ h; leads = layer_on a m s n o bs s' q st (raised_none fault h) })

    -- refused below
    pub in_err : (f : Fault) → raised fault ≡ Some f → (u : a.St) → Did here (layer_means a m' u (Shut f) n) o (Some f)
    in_err f h u = rw (e, r) (record { tells = layer_verdict a m s n o bs s' q ∙ h; leads = go fault refl h })
      where
        go : (v : Option Fault) → fault ≡ v → raised v ≡ Some f → layer_means a (sent m (down bs (k.closes o))) u (Shut f) n ≡ after (layer_means a m s Running n) o
        go None w x = let z : ◌≡◌ {A = ℕ} 0 1 = cc in absurd (omega arith)
        go (Some g) w x = let y : raise g ≡ f = cc in rw (← y) (layer_shut a m s n o bs s' q g u w)
