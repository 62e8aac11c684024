-- Which bytes are refused.
use Rattle.std.proofs.Common.{◌≡◌, ℕ, ◌≤◌, Bool, true, false, cond, eqb, ◌↔◌, [], ◌∷◌, ◌++◌, Some, None, Decides, Option, sym, refl, ◌∙◌, MatchOption}
use Rattle.std.proofs.lemmas.Bool.{both_ways, eqb-true, eqb-false}
use Rattle.folding.specs.Text.{space, trimmed, settled}
use Rattle.folding.specs.WireLine.{width}
use Rattle.folding.specs.Breaks.{Unbroken}
use Rattle.folding.specs.Folding.{folding}
use Rattle.folding.specs.Held.{Held, Valid, full}
use Rattle.folding.specs.Incremental.{count_space, Progress, start, and_then, send, put, put_all, so_far}
use Rattle.folding.specs.Tracking.{Tracks, FullLine, RefusedBytes, Refusals}
use Rattle.folding.proofs.Constructors.{same_some, some_none}
use Rattle.folding.proofs.HeldFull.{full_decides}
use Rattle.folding.proofs.Tracking.{bytes_track}
use Rattle.folding.proofs.Ending.{ends_track}
use Rattle.folding.proofs.Agreeing.{text_tracks}

pub put_full : (d w : ℕ) (h : Held) (b : ℕ) → Valid d w h → put d w h b ≡ None ↔ FullLine d b h.line
put_full d w h b valid = go (eqb b space) refl (full d h) refl (count_space h) (send d w h b)
  where
    decided : Decides (full d h) (Unbroken h.line × (998 ≤ width d h.line))
    decided = full_decides d w h valid

    go : (x : Bool) → eqb b space ≡ x → (y : Bool) → full d h ≡ y → (s u : Progress) →
        cond x (Some s) (cond y None (Some u)) ≡ None ↔ FullLine d b h.line
    go true e y f s u = (λ q. absurd (some_none q), λ l. absurd (l.plain (eqb-true b space e)))
    go false e true f s u =
        let p = decided.0 f in
        (λ _. record { plain = eqb-false b space e; unbroken = p.0; wide = p.1 }, λ _. refl)
    go false e false f s u = (λ q. absurd (some_none q), λ l. absurd (both_ways (full d h) f (decided.1 (l.unbroken, l.wide))))

pub refused_bytes : RefusedBytes
refused_bytes d w t a b small narrow k = record {
  by_folding = go (put d w a.held b) (bytes_track d w t a b small narrow k);
  by_line = put_full d w a.held b k.valid;
}
  where
    go : (o : Option Progress) → MatchOption o (folding d w (settled (t ++ b ∷ [])) ≡ None) (λ s. Tracks d w (t ++ b ∷ []) (and_then a s)) →
        o ≡ None ↔ folding d w (settled (t ++ b ∷ [])) ≡ None
    go None n = (λ _. n, λ _. refl)
    go (Some s) q =
        let has = ends_track d w (t ++ b ∷ []) (and_then a s) small q in
        (λ e. absurd (some_none e), λ n. absurd (some_none (sym has ∙ n)))

pub refusals : Refusals
refusals d w t f b small narrow e = go (put_all d w start t) (text_tracks d w small narrow t)
  where
    go : (o : Option Progress) → MatchOption o (folding d w (trimmed t) ≡ None) (Tracks d w t) →
        folding d w (settled (t ++ b ∷ [])) ≡ None ↔ FullLine d b f.last
    go None n = absurd (some_none (sym e ∙ n))
    go (Some a) k =
        let r = refused_bytes d w t a b small narrow k in
        let same : so_far a ≡ f = same_some (sym k.folds ∙ e) in
        rw (← same) (λ n. r.by_line.0 (r.by_folding.1 n), λ l. r.by_folding.0 (r.by_line.1 l))
