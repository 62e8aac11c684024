-- What is filled goes on after what was.
use Rattle.std.proofs.Common.{◌≡◌, ℕ, zero, suc, List, [], ◌∷◌, ◌++◌, Some, None, Option, sym, refl, ap, ◌∙◌, append_assoc, append-nil, arith}
use Rattle.fault.specs.declared.fault.Fault.{Fault}
use Rattle.fault.specs.Answers.{raised, or_else}
use Rattle.orders.specs.Meaning.{up}
use Rattle.orders.specs.Permits.{Bars, Filled, filled, fill, lift, Permitted}

abbrev pub cont : {E : Type 0} → Option Fault → Bars E → List E → List E → Filled E
cont (Some f) bars l ys = record { list = l; fault = Some f }
cont None bars l ys = fill bars l ys

pub fill_append : {E : Type 0} (bars : Bars E) (foot xs ys : List E) → fill bars foot (xs ++ ys) ≡ cont (fill bars foot xs).fault bars (fill bars foot xs).list ys
fill_append bars foot [] ys = refl
fill_append bars foot (x ∷ xs) ys = go (bars foot x) (fill_append bars (foot ++ (x ∷ [])) xs ys)
  where
    go : (v : Option Fault) → fill bars (foot ++ (x ∷ [])) (xs ++ ys) ≡ cont (fill bars (foot ++ (x ∷ [])) xs).fault bars (fill bars (foot ++ (x ∷ [])) xs).list ys → filled v foot (fill bars (foot ++ (x ∷ [])) (xs ++ ys)) ≡ cont (filled v foot (fill bars (foot ++ (x ∷ [])) xs)).fault bars (filled v foot (fill bars (foot ++ (x ∷ [])) xs)).list ys
    go (Some f) ih = refl
    go None ih = ih

-- the list that was filled, by its permitted beginning
pub record Prefix {E : Type 0} (bars : Bars E) (foot l : List E) : Type 0 where
  pub pre : List E
  pub is : l ≡ foot ++ pre
  pub ok : fill bars foot pre ≡ record { list = l; fault = None }

pub fill_prefix : {E : Type 0} (bars : Bars E) (foot xs : List E) → Prefix bars foot (fill bars foot xs).list
fill_prefix bars foot [] = record { pre = []; is = sym (append-nil foot); ok = refl }
fill_prefix {E} bars foot (x ∷ xs) = go (bars foot x) refl (fill_prefix bars (foot ++ (x ∷ [])) xs)
  where
    go : (v : Option Fault) → bars foot x ≡ v → Prefix bars (foot ++ (x ∷ [])) (fill bars (foot ++ (x ∷ [])) xs).list → Prefix bars foot (filled v foot (fill bars (foot ++ (x ∷ [])) xs)).list
    go (Some f) e p = record { pre = []; is = sym (append-nil foot); ok = refl }
    go None e p = record {
      pre = x ∷ p.pre;
      is = p.is ∙ append_assoc foot (x ∷ []) p.pre;
      ok = ap (λ (v : Option Fault). filled v foot (fill bars (foot ++ (x ∷ [])) p.pre)) e ∙ p.ok;
    }

-- what was filled with no fault is the foot with all
pub fill_whole : {E : Type 0} (bars : Bars E) (foot xs : List E) → (fill bars foot xs).fault ≡ None → (fill bars foot xs).list ≡ foot ++ xs
fill_whole bars foot [] e = sym (append-nil foot)
fill_whole {E} bars foot (x ∷ xs) e = go (bars foot x) e (fill_whole bars (foot ++ (x ∷ [])) xs)
  where
    w : Filled E
    w = fill bars (foot ++ (x ∷ [])) xs

    go : (v : Option Fault) → (filled v foot w).fault ≡ None → (w.fault ≡ None → w.list ≡ (foot ++ (x ∷ [])) ++ xs) → (filled v foot w).list ≡ foot ++ (x ∷ xs)
    go (Some f) h ih = let z : ◌≡◌ {A = ℕ} 0 1 = cc in absurd (omega arith)
    go None h ih = ih h ∙ append_assoc foot (x ∷ []) xs

pub raised_none : (v : Option Fault) → raised v ≡ None → v ≡ None
raised_none None e = refl
raised_none (Some f) e = let z : ◌≡◌ {A = ℕ} 0 1 = cc in absurd (omega arith)

pub both_none : (v x : Option Fault) → or_else v x ≡ None → (v ≡ None) × (x ≡ None)
both_none (Some f) x h = let z : ◌≡◌ {A = ℕ} 0 1 = cc in absurd (omega arith)
both_none None x h = (refl, h)

-- a permit passed up fills the same lists, its faults one level higher
pub fill_raised : {E : Type 0} (bars : List E → E → Option Fault) (foot xs : List E) → fill (λ p b. raised (bars p b)) foot xs ≡ lift (fill bars foot xs)
fill_raised bars foot [] = refl
fill_raised bars foot (x ∷ xs) = go (bars foot x) (fill_raised bars (foot ++ (x ∷ [])) xs)
  where
    go : (v : Option Fault) → fill (λ p b. raised (bars p b)) (foot ++ (x ∷ [])) xs ≡ lift (fill bars (foot ++ (x ∷ [])) xs) → filled (raised v) foot (fill (λ p b. raised (bars p b)) (foot ++ (x ∷ [])) xs) ≡ lift (filled v foot (fill bars (foot ++ (x ∷ [])) xs))
    go (Some f) ih = refl
    go None ih = ih

-- and so many layers higher
pub fill_up : {E : Type 0} (n : ℕ) (bars : Bars E) (foot xs : List E) → fill (λ p x. up n (bars p x)) foot xs ≡ record { list = (fill bars foot xs).list; fault = up n (fill bars foot xs).fault }
fill_up zero bars foot xs = refl
fill_up (suc n) bars foot xs = fill_raised (λ p x. up n (bars p x)) foot xs ∙ ap lift (fill_up n bars foot xs)

pub up_none : (n : ℕ) (v : Option Fault) → up n v ≡ None → v ≡ None
up_none zero v e = e
up_none (suc n) v e = up_none n v (raised_none (up n v) e)

-- a permit is told by the faults alone
pub same_fills : {E : Type 0} (a b : Bars E) (foot : List E) → ((ys : List E) → (fill a foot ys).fault ≡ (fill b foot ys).fault) → (xs : List E) → fill a foot xs ≡ fill b foot xs
same_fills a b foot h [] = refl
same_fills {E} a b foot h (x ∷ xs) = go (a foot x) refl (λ k. same_fills a b (foot ++ (x ∷ [])) k xs)
  where
    alone : (v : Option Fault) → (filled v foot (record { list = foot ++ (x ∷ []); fault = None })).fault ≡ v
    alone (Some f) = refl
    alone None = refl

    one : a foot x ≡ b foot x
    one = sym (alone (a foot x)) ∙ h (x ∷ []) ∙ alone (b foot x)

    at : Bars E → Option Fault → List E → Filled E
    at c v ys = filled v foot (fill c (foot ++ (x ∷ [])) ys)

    go : (v : Option Fault) → a foot x ≡ v → (((ys : List E) → (fill a (foot ++ (x ∷ [])) ys).fault ≡ (fill b (foot ++ (x ∷ [])) ys).fault) → fill a (foot ++ (x ∷ [])) xs ≡ fill b (foot ++ (x ∷ [])) xs) → at a (a foot x) xs ≡ at b (b foot x) xs
    go (Some f) e ih = ap (λ (v : Option Fault). at a v xs) e ∙ sym (ap (λ (v : Option Fault). at b v xs) (sym one ∙ e))
    go None e ih =
        let on : (ys : List E) → (fill a (foot ++ (x ∷ [])) ys).fault ≡ (fill b (foot ++ (x ∷ [])) ys).fault = λ ys. sym (ap (λ (v : Option Fault). (at a v ys).fault) e) ∙ h (x ∷ ys) ∙ ap (λ (v : Option Fault). (at b v ys).fault) (sym one ∙ e) in
        ap (λ (v : Option Fault). at a v xs) e ∙ ih on ∙ sym (ap (λ (v : Option Fault). at b v xs) (sym one ∙ e))

-- what is permitted a level higher is permitted
pub permitted_below : {E : Type 0} (bars : Bars E) (xs : List E) → Permitted (λ p x. raised (bars p x)) xs → Permitted bars xs
permitted_below {E} bars xs e =
    let h = sym (fill_raised bars [] xs) ∙ e in
    λ i. record { list = (h i).list; fault = raised_none (fill bars [] xs).fault (ap (λ (w : Filled E). w.fault) h) i }
