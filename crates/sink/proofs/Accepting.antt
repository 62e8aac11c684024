-- Orders that come to no fault are accepted.
use Rattle.std.proofs.Common.{◌≡◌, ℕ, true, List, [], ◌++◌, None, Option, sym, ap, ◌∙◌, subst}
use Rattle.fault.specs.declared.fault.Fault.{Fault}
use Rattle.fault.specs.Answers.{or_else}
use Rattle.orders.specs.Meaning.{Added, bars, ending}
use Rattle.orders.specs.Permits.{Filled, fill}
use Rattle.orders.specs.Lists.{addition, reach}
use Rattle.orders.proofs.Fills.{both_none, fill_whole}
use Rattle.sink.specs.Sink.{Sink, down}
use Rattle.sink.specs.Law.{Accepts}

module _ (m : Sink) (bs : List ℕ) (e : m.foot ≡ []) (h : (reach m (down bs true) true).fault ≡ None) where
  abbrev a : Added ℕ
  a = addition m.adds (down bs true)

  abbrev w : Filled ℕ
  w = fill (bars m.fixed) m.foot a.items

  abbrev stop : Option Fault
  stop = ending m.fixed w.list

  filled_none : w.fault ≡ None
  filled_none = (both_none w.fault (or_else a.fault stop) h).0

  rest_none : (a.fault ≡ None) × (stop ≡ None)
  rest_none = both_none a.fault stop (both_none w.fault (or_else a.fault stop) h).1

  all_there : w.list ≡ a.items
  all_there = fill_whole (bars m.fixed) m.foot a.items filled_none ∙ ap (λ (x : List ℕ). x ++ a.items) e

  permitted : fill (bars m.fixed) [] a.items ≡ record { list = a.items; fault = None }
  permitted = ap (λ (x : List ℕ). fill (bars m.fixed) x a.items) (sym e) ∙ (λ i. record { list = all_there i; fault = filled_none i })

  pub accepted : Accepts m bs w.list
  accepted = subst (λ (x : List ℕ). Accepts m bs x) (sym all_there) (record {
    added = λ i. record { items = a.items; fault = rest_none.0 i };
    permitted = permitted;
    closable = ap (ending m.fixed) (sym all_there) ∙ rest_none.1;
  })
