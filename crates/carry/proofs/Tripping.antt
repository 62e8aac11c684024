-- A new dot stage over memory: what it sends for lines, and that it comes back.
use Rattle.std.proofs.Common.{◌≡◌, ℕ, ◌≤◌, true, List, [], length, None, Ok, vec_len, Vec, sym, refl, ap, ◌∙◌, subst, arith}
use Rattle.std.specs.declared.alloc.Global.{Global}
use Rattle.std.specs.List.{AllByRecursion}
use Rattle.orders.specs.declared.phase.Phase.TheVariants.{Running}
use Rattle.orders.specs.Meaning.{Added, bars, ending}
use Rattle.orders.specs.Permits.{Filled, fill, lift}
use Rattle.orders.specs.Steps.{shown, finished}
use Rattle.orders.specs.Lists.{reach}
use Rattle.orders.proofs.Fills.{fill_raised}
use Rattle.sink.specs.Sink.{down}
use Rattle.sink.specs.Law.{Lawful}
use Rattle.layer.specs.Layer.{lifted}
use Rattle.ends.specs.Ends.{memory_means, compare_means, fits}
use Rattle.ends.specs.Lawful.{memory_lawful, adds_whole, fits_all}
use Rattle.dot.specs.declared.line.LineState.TheVariants.{Start}
use Rattle.dot.specs.Stuffing.{Clean, text_of, stuffed}
use Rattle.dot.specs.Law.{dot_lawful}
use Rattle.dot.proofs.ByLines.{dot_stuffs}
use Rattle.carry.specs.Back.{passed, returned}
use Rattle.carry.specs.Trip.{new_stage}
use Rattle.sink.proofs.Accepting.{accepted}
use Rattle.carry.proofs.Returning.{comes_back}

module _ (v : Vec ℕ Global) (bs : List ℕ) where
  abbrev reached : Filled ℕ
  reached = reach (new_stage v) (down bs true) true

  pub trip_back : (wire : List ℕ) → reached.fault ≡ None → wire ≡ reached.list → returned (passed (new_stage v).fixed.also (compare_means bs 0 Running) wire) ≡ Ok (shown bs)
  trip_back wire h e =
      let l : Lawful (new_stage v) = dot_lawful (memory_means v 0 Running) Start Running 0 (memory_lawful v 0 Running) in
      subst (λ (w : List ℕ). returned (passed (new_stage v).fixed.also (compare_means bs 0 Running) w) ≡ Ok (shown bs)) (sym e) (comes_back (new_stage v) l refl bs reached.list (accepted (new_stage v) bs refl h))

  -- the lines of a body that fits, stuffed
  pub trip_stuffed : (ls : List (List ℕ)) → AllByRecursion Clean ls → bs ≡ text_of ls → length (stuffed ls) ≤ vec_len v → reached ≡ record { list = stuffed ls; fault = None }
  trip_stuffed ls c e h =
      let m = new_stage v in
      let at : Added ℕ → Filled ℕ = λ a. finished (ending m.fixed) true a.fault (fill (bars m.fixed) [] a.items) in
      ap (λ (x : List ℕ). reach m (down x true) true) e
      ∙ ap at ((dot_stuffs (memory_means v 0 Running)).lines ls c)
      ∙ ap (λ (a : Added ℕ). at (lifted a)) (adds_whole 0 (stuffed ls))
      ∙ ap (finished (ending m.fixed) true None) (fill_raised (fits (vec_len v)).bars [] (stuffed ls) ∙ ap lift (fits_all (vec_len v) [] (stuffed ls) (omega arith)))
