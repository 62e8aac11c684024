-- Trailing spaces.
use Rattle.std.proofs.Common.{◌≡◌, ℕ, zero, suc, ◌<◌, Bool, true, false, cond, eqb, ◌⊎◌, [], ◌∷◌, ◌++◌, length, take, drop, replicate, sym, refl, ap, ◌∙◌, inl, inr, ⊎_elim, append_assoc, append-nil, arith, length-drop, take-append-drop}
use Rattle.std.specs.Str.{bytes_eq}
use Rattle.std.proofs.lemmas.Bool.{both_ways, eqb-true}
use Rattle.std.proofs.lemmas.Slice.Eq.{bytes_eq-Decides}
use Rattle.folding.specs.Laws.{TrimmedTexts}
use Rattle.folding.specs.Text.{Text, space, signature, ends_in_space, trim_before, trimmed, settled}

-- the last byte of a text that is not empty is that of all that ends with it
pub ends_behind : (p : Text) (b : ℕ) (t : Text) → ends_in_space (p ++ b ∷ t) ≡ ends_in_space (b ∷ t)
ends_behind [] b t = refl
ends_behind (a ∷ []) b t = refl
ends_behind (a ∷ c ∷ p) b t = ends_behind (c ∷ p) b t

pub ends_append : (p t : Text) → 0 < length t → ends_in_space (p ++ t) ≡ ends_in_space t
ends_append p [] l = absurd (omega arith)
ends_append p (b ∷ t) l = ends_behind p b t

pub ends_drop : (n : ℕ) (t : Text) → n < length t → ends_in_space (drop n t) ≡ ends_in_space t
ends_drop n t l = sym (ends_append (take n t) (drop n t) (omega (arith, length-drop n t))) ∙ ap ends_in_space (take-append-drop n t)

pub some_from_ends : (t : Text) → ends_in_space t ≡ true → 0 < length t
some_from_ends [] e = absurd (both_ways false refl e)
some_from_ends (b ∷ t) e = omega arith

pub ends_spaces : (p : Text) (n : ℕ) → 0 < n → ends_in_space (p ++ replicate n space) ≡ true
ends_spaces p zero l = absurd (omega arith)
ends_spaces p (suc n) l = ends_behind p space (replicate n space) ∙ all_spaces n
  where
    all_spaces : (n : ℕ) → ends_in_space (replicate (suc n) space) ≡ true
    all_spaces zero = refl
    all_spaces (suc n) = all_spaces n

-- a trimmed text does not end in a space
pub trimmed_ends : (t : Text) → ends_in_space (trimmed t) ≡ false
trimmed_ends [] = refl
trimmed_ends (b ∷ t) = go (trimmed t) (trimmed_ends t)
  where
    one : (x : Bool) → eqb b space ≡ x → ends_in_space (cond x [] (b ∷ [])) ≡ false
    one true e = refl
    one false e = e

    go : (s : Text) → ends_in_space s ≡ false → ends_in_space (trim_before b s) ≡ false
    go [] e = one (eqb b space) refl
    go (c ∷ s) e = e

pub settled_ends : (t : Text) → ends_in_space (settled t) ≡ true → settled t ≡ signature
settled_ends t = go (bytes_eq t signature)
  where
    go : (x : Bool) → ends_in_space (cond x signature (trimmed t)) ≡ true → cond x signature (trimmed t) ≡ signature
    go true h = refl
    go false h = absurd (both_ways (ends_in_space (trimmed t)) (trimmed_ends t) h)

pub settled_cases : (t : Text) → (t ≡ signature) ⊎ (settled t ≡ trimmed t)
settled_cases t = go (bytes_eq t signature) refl
  where
    go : (x : Bool) → bytes_eq t signature ≡ x → (t ≡ signature) ⊎ (cond x signature (trimmed t) ≡ trimmed t)
    go true e = inl ((bytes_eq-Decides t signature).0 e)
    go false e = inr refl

-- a text that does not end in a space stays when it is trimmed with what follows it
pub trimmed_append : (p t : Text) → ends_in_space p ≡ false → trimmed (p ++ t) ≡ p ++ trimmed t
trimmed_append [] t e = refl
trimmed_append (b ∷ []) t e = go (trimmed t)
  where
    go : (s : Text) → trim_before b s ≡ b ∷ s
    go [] = ap (λ x. cond x [] (b ∷ [])) e
    go (c ∷ s) = refl
trimmed_append (b ∷ c ∷ p) t e = ap (trim_before b) (trimmed_append (c ∷ p) t e)

trimmed_spaces : (n : ℕ) → trimmed (replicate n space) ≡ []
trimmed_spaces zero = refl
trimmed_spaces (suc n) = ap (trim_before space) (trimmed_spaces n)

pub trimmed_behind : (p : Text) (n : ℕ) → ends_in_space p ≡ false → trimmed (p ++ replicate n space) ≡ p
trimmed_behind p n e = trimmed_append p (replicate n space) e ∙ ap (λ (t : Text). p ++ t) (trimmed_spaces n) ∙ append-nil p

pub trimmed_same : (t : Text) → ends_in_space t ≡ false → trimmed t ≡ t
trimmed_same t e = ap trimmed (sym (append-nil t)) ∙ trimmed_append t [] e ∙ append-nil t

pub settled_same : (t : Text) → ends_in_space t ≡ false → settled t ≡ t
settled_same t e = ⊎_elim
    (λ (q : t ≡ signature). absurd (both_ways (ends_in_space t) e (ap ends_in_space q)))
    (λ (q : settled t ≡ trimmed t). q ∙ trimmed_same t e)
    (settled_cases t)

pub trimmed_space : (t : Text) → trimmed (t ++ space ∷ []) ≡ trimmed t
trimmed_space [] = refl
trimmed_space (b ∷ t) = ap (trim_before b) (trimmed_space t)

-- a text is its trimmed text and then spaces
pub trimmed_rest : (t : Text) → (n : ℕ) × (t ≡ trimmed t ++ replicate n space)
trimmed_rest [] = (0, refl)
trimmed_rest (b ∷ t) = let r = trimmed_rest t in go (trimmed t) r.0 r.1
  where
    one : (x : Bool) → eqb b space ≡ x → (n : ℕ) → t ≡ replicate n space → (m : ℕ) × (b ∷ t ≡ cond x [] (b ∷ []) ++ replicate m space)
    one true e n h = let i = eqb-true b space e in (suc n, cc)
    one false e n h = (n, ap (λ (s : Text). b ∷ s) h)

    go : (s : Text) (n : ℕ) → t ≡ s ++ replicate n space → (m : ℕ) × (b ∷ t ≡ trim_before b s ++ replicate m space)
    go [] n h = one (eqb b space) refl n h
    go (c ∷ s) n h = (n, ap (λ (s : Text). b ∷ s) h)

-- more text only adds to what is trimmed
pub trimmed_grows : (t u : Text) → (v : Text) × (trimmed (t ++ u) ≡ trimmed t ++ v)
trimmed_grows t u =
    let r = trimmed_rest t in
    let more = replicate r.0 space ++ u in
    let same : t ++ u ≡ trimmed t ++ more = ap (λ (x : Text). x ++ u) r.1 ∙ append_assoc (trimmed t) (replicate r.0 space) u in
    (trimmed more, ap trimmed same ∙ trimmed_append (trimmed t) more (trimmed_ends t))

pub trimmed_texts : TrimmedTexts
trimmed_texts t = record {
  no_space = trimmed_ends t;
  spaces = (trimmed_rest t).0;
  rest = (trimmed_rest t).1;
  only = λ p n e q. sym (ap trimmed q ∙ trimmed_behind p n e);
}
