-- Whole texts, byte by byte.
use Rattle.std.proofs.Common.{◌≡◌, ℕ, ◌≤◌, ◌⊎◌, ◌↔◌, [], ◌∷◌, ◌++◌, Some, None, Option, sym, ap, ◌∙◌, inl, inr, append_assoc, append-nil, MatchOption}
use Rattle.folding.specs.Text.{Text, signature, trimmed, settled}
use Rattle.folding.specs.Folding.{folding}
use Rattle.folding.specs.Incremental.{Progress, start, and_then, put, put_then, put_all}
use Rattle.folding.specs.Tracking.{Tracks, Agrees, TextsAgree}
use Rattle.folding.proofs.Constructors.{some_none}
use Rattle.folding.proofs.Spaces.{settled_cases, trimmed_grows}
use Rattle.folding.proofs.Exceptions.{front_folds}
use Rattle.folding.proofs.Stays.{folding_none}
use Rattle.folding.proofs.Tracking.{start_tracks, bytes_track}
use Rattle.folding.proofs.Ending.{ends_track}

module _ (d w : ℕ) (small : d ≤ 100) where
  -- 2D 2D 20 has a folding, settled or trimmed
  pub settled_none : (t : Text) → folding d w (settled t) ≡ None ↔ folding d w (trimmed t) ≡ None
  settled_none t = go (settled_cases t)
    where
      go : (t ≡ signature) ⊎ (settled t ≡ trimmed t) → folding d w (settled t) ≡ None ↔ folding d w (trimmed t) ≡ None
      go (inl q) = (
        λ n. absurd (some_none (sym (ap (λ (s : Text). folding d w (settled s)) q) ∙ n)),
        λ n. absurd (some_none (sym (ap (λ (s : Text). folding d w (trimmed s)) q ∙ front_folds d w small 2) ∙ n)),
      )
      go (inr q) = (λ n. ap (folding d w) (sym q) ∙ n, λ n. ap (folding d w) q ∙ n)

  none_more : (t u : Text) → folding d w (trimmed t) ≡ None → folding d w (trimmed (t ++ u)) ≡ None
  none_more t u n = let r = trimmed_grows t u in ap (folding d w) r.1 ∙ folding_none d w (trimmed t) r.0 small n

  module _ (narrow : w ≤ 998) where
    -- the bytes of u after the text t
    tracks_on : (u t : Text) (a : Progress) → Tracks d w t a →
        MatchOption (put_all d w a u) (folding d w (trimmed (t ++ u)) ≡ None) (Tracks d w (t ++ u))
    tracks_on [] t a k = rw (append-nil t) k
    tracks_on (b ∷ u) t a k =
        let first = bytes_track d w t a b small narrow k in
        rw (← (append_assoc t (b ∷ []) u)) (go (put d w a.held b) first (tracks_on u (t ++ b ∷ [])))
      where
        Tracked : Option Progress → Type 0
        Tracked o = MatchOption o (folding d w (trimmed ((t ++ b ∷ []) ++ u)) ≡ None) (Tracks d w ((t ++ b ∷ []) ++ u))

        go : (o : Option Progress) →
            MatchOption o (folding d w (settled (t ++ b ∷ [])) ≡ None) (λ s. Tracks d w (t ++ b ∷ []) (and_then a s)) →
            ((s : Progress) → Tracks d w (t ++ b ∷ []) s → Tracked (put_all d w s u)) →
            Tracked (put_then a o (λ s. put_all d w s u))
        go None n r = none_more (t ++ b ∷ []) u ((settled_none (t ++ b ∷ [])).0 n)
        go (Some s) q r = r (and_then a s) q

    pub text_tracks : (t : Text) → MatchOption (put_all d w start t) (folding d w (trimmed t) ≡ None) (Tracks d w t)
    text_tracks t = tracks_on t [] start (start_tracks d w)

pub texts_agree : TextsAgree
texts_agree d w t small narrow = go (put_all d w start t) (text_tracks d w small narrow t)
  where
    go : (o : Option Progress) → MatchOption o (folding d w (trimmed t) ≡ None) (Tracks d w t) → Agrees d w t o
    go None n = record { sent = sym n; end = sym ((settled_none d w small t).1 n) }
    go (Some a) k = record { sent = sym k.folds; end = sym (ends_track d w t a small k) }
