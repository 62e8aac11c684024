-- What orders leave of the foot and of the memory behind it.
use Rattle.std.specs.Prelude.{◌≡◌, ℕ, List, [], ◌++◌, length, drop, refl}
use Rattle.std.proofs.Common.{sym, ap, ◌∙◌, append-nil, append_assoc, length-append, drop-drop}
use Rattle.orders.specs.Behind.{Behind}

-- the one foot is a beginning of the other
pub record Grows {E : Type 0} (foot foot' : List E) : Type 0 where
  pub more : List E
  pub grown : foot' ≡ foot ++ more

-- the foot grew, and behind it the memory holds what it held
pub record Keeps (foot foot' old new : List ℕ) : Type 0 where
  pub grows : Grows foot foot'
  pub behind : Behind foot' old new

pub grows_same : {E : Type 0} (foot : List E) → Grows foot foot
grows_same foot = record { more = []; grown = sym (append-nil foot) }

pub grows_chained : {E : Type 0} (a b c : List E) → Grows a b → Grows b c → Grows a c
grows_chained {E} a b c p q = record {
  more = p.more ++ q.more;
  grown = q.grown ∙ ap (λ (l : List E). l ++ q.more) p.grown ∙ append_assoc a p.more q.more;
}

-- behind a longer foot too
pub behind_more : (foot more old new : List ℕ) → Behind foot old new → Behind (foot ++ more) old new
behind_more foot more old new h = at new ∙ ap (drop (length more)) h ∙ sym (at old)
  where
    at : (l : List ℕ) → drop (length (foot ++ more)) l ≡ drop (length more) (drop (length foot) l)
    at l = ap (λ (k : ℕ). drop k l) (length-append foot more) ∙ sym (drop-drop (length more) (length foot) l)

pub behind_grown : (a b old new : List ℕ) → Grows a b → Behind a old new → Behind b old new
behind_grown a b old new g h =
    ap (λ (l : List ℕ). drop (length l) new) g.grown ∙ behind_more a g.more old new h ∙ ap (λ (l : List ℕ). drop (length l) old) (sym g.grown)

pub keeps_same : (foot old : List ℕ) → Keeps foot foot old old
keeps_same foot old = record { grows = grows_same foot; behind = refl }

pub keeps_chained : (a b c x y z : List ℕ) → Keeps a b x y → Keeps b c y z → Keeps a c x z
keeps_chained a b c x y z p q = record {
  grows = grows_chained a b c p.grows q.grows;
  behind = q.behind ∙ behind_grown b c x y q.grows p.behind;
}
