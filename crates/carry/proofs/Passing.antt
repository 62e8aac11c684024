-- Bytes that go through one after another, by what is still to come.
use Rattle.std.proofs.Common.{◌≡◌, ℕ, ◌+◌, List, [], ◌∷◌, Some, None, Ok, Result, refl, sym, ap, ◌∙◌, arith}
use Rattle.fault.specs.declared.fault.Fault.{Fault}
use Rattle.undo.specs.Undoing.{Undoing, fed}
use Rattle.sink.specs.Sink.{Sink}
use Rattle.carry.specs.declared.stop.Stop.{Stop}
use Rattle.carry.specs.Back.{Passed, Stopped, passed, passed_on, stop_at, sink_at, unless}

-- after i bytes of all, with rest still to come, stage and sink mean v and n, where they meant u and m
pub record Rest (u v : Undoing) (m n : Sink) (i : ℕ) (all rest : List ℕ) : Type 0 where
  pub count : i + (passed v n rest).count ≡ (passed u m all).count
  pub stop : (passed v n rest).stop ≡ (passed u m all).stop
  pub undoing : (passed v n rest).undoing ≡ (passed u m all).undoing
  pub sink : (passed v n rest).sink ≡ (passed u m all).sink

module _ (u v : Undoing) (m n : Sink) (i : ℕ) (all : List ℕ) (b : ℕ) (rest : List ℕ) (h : Rest u v m n i all (b ∷ rest)) where
  abbrev v' : Undoing
  v' = fed v b

  abbrev n' : Sink
  n' = sink_at (v.takes [] b) n

  abbrev next : Stopped → Passed
  next s = passed_on s v' n' (passed v' n' rest)

  pub went_through : stop_at (v.takes [] b) n ≡ None → Rest u v' m n' (i + 1) all rest
  went_through e =
      let k = ap (λ (s : Stopped). (next s).count) e in
      let q = h.count in
      record {
        count = omega arith;
        stop = sym (ap (λ (s : Stopped). (next s).stop) e) ∙ h.stop;
        undoing = sym (ap (λ (s : Stopped). (next s).undoing) e) ∙ h.undoing;
        sink = sym (ap (λ (s : Stopped). (next s).sink) e) ∙ h.sink;
      }

pub none_stopped : (s : Stopped) → ◌≡◌ {A = Result (Unit {0}) (Stop Fault Fault)} (Ok tt) (unless tt s) → s ≡ None
none_stopped None e = refl
none_stopped (Some x) e = cc
