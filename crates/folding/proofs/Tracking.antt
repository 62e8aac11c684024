-- Lines sent and what is held stand for the text, byte after byte.
use Rattle.std.proofs.Common.{◌≡◌, ℕ, zero, suc, ◌+◌, ◌<◌, ◌≤◌, Bool, true, false, cond, eqb, List, [], ◌∷◌, ◌++◌, length, take, replicate, Some, None, Option, sym, refl, ap, ◌∙◌, append_assoc, append-nil, arith, MatchOption}
use Rattle.std.proofs.lemmas.List.{replicate_more}
use Rattle.std.proofs.lemmas.Bool.{eqb-true}
use Rattle.folding.specs.Text.{Text, space, trimmed, settled, ends_in_space}
use Rattle.folding.specs.Folded.{after_lines}
use Rattle.folding.specs.Folding.{from_start, folding}
use Rattle.folding.specs.Held.{Held, Valid, held_with, full}
use Rattle.folding.specs.Incremental.{held_piece, count_space, Progress, and_then, send_piece, send_in, send, so_far}
use Rattle.folding.specs.Tracking.{Tracks, StartTracks, BytesTrack}
use Rattle.folding.proofs.Spaces.{ends_behind, trimmed_same, settled_same, trimmed_space}
use Rattle.folding.proofs.FromStart.{from_start_none}
use Rattle.folding.proofs.Exceptions.{no_exception}
use Rattle.folding.proofs.Stays.{folding_append}
use Rattle.folding.proofs.HeldFull.{full_none}
use Rattle.folding.proofs.Turns.{Joins, Sends, turn}

-- what a byte other than a space sends, and what is held then
pub record Sent (d w : ℕ) (h : Held) (b : ℕ) (s : Progress) : Type 0 where
  pub folds : from_start d w (held_with h b) ≡ Some (so_far s)
  pub valid : Valid d w s.held
  pub spaces : s.held.spaces ≡ 0

module _ (d w b : ℕ) (small : d ≤ 100) (narrow : w ≤ 998) (plain : eqb b space ≡ false) where
  sent_in : (k : ℕ) (h : Held) → Valid d w h → full d h ≡ false → length (held_with h b) < k → Sent d w h b (send_in k d w h b)
  unfolding send_in
  sent_in zero h valid room l = absurd (omega arith)
  sent_in (suc k) h valid room l = go (held_piece d w h b) (turn d w h b small narrow plain valid room) (sent_in k)
    where
      go : (o : Option ℕ) → MatchOption o (Joins d w h b) (Sends d w h b) →
          ((g : Held) → Valid d w g → full d g ≡ false → length (held_with g b) < k → Sent d w g b (send_in k d w g b)) →
          Sent d w h b (send_piece o h b (λ g. send_in k d w g b))
      go None j r = record { folds = j.folds; valid = j.valid; spaces = refl }
      go (Some m) s r =
          let q = r _ s.valid s.room (omega (arith, s.less)) in
          record { folds = s.folds ∙ ap (after_lines (take m (held_with h b) ∷ [])) q.folds; valid = q.valid; spaces = q.spaces }

  pub sent : (h : Held) → Valid d w h → full d h ≡ false → Sent d w h b (send d w h b)
  sent h valid room = sent_in (length (held_with h b) + 1) h valid room (omega arith)

pub start_tracks : StartTracks
start_tracks d w = record {
  folds = refl;
  text = refl;
  valid = record { no_space = refl; known = λ j c. omega (arith, c.before_text) };
}

-- a space is counted
pub space_tracks : (d w : ℕ) (t : Text) (a : Progress) → Tracks d w t a →
    Tracks d w (t ++ space ∷ []) (and_then a (count_space a.held))
space_tracks d w t a k =
    let e = trimmed_space t in
    let n = a.held.spaces in
    record {
      folds =
          ap (folding d w) e ∙ k.folds
          ∙ ap (λ (x : List Text). Some (record { flowed = x; last = a.held.line })) (sym (append-nil a.sent));
      text =
          ap (λ (x : Text). x ++ space ∷ []) k.text ∙ append_assoc (trimmed t) (replicate n space) (space ∷ [])
          ∙ ap (λ (x : Text). trimmed t ++ x) (replicate_more n space) ∙ ap (λ (x : Text). x ++ replicate (n + 1) space) (sym e);
      valid = record { no_space = k.valid.no_space; known = k.valid.known };
    }

-- any other byte: the last line is folded again, with the byte behind it
module _ (d w : ℕ) (t : Text) (a : Progress) (b : ℕ) (small : d ≤ 100) (plain : eqb b space ≡ false) (k : Tracks d w t a) where
  ends_plain : ends_in_space (t ++ b ∷ []) ≡ false
  ends_plain = ends_behind t b [] ∙ plain

  pub refolded : folding d w (t ++ b ∷ []) ≡ after_lines a.sent (from_start d w (held_with a.held b))
  refolded =
      let spaces = replicate a.held.spaces space in
      let more = spaces ++ b ∷ [] in
      let whole = ap (λ (x : Text). x ++ b ∷ []) k.text ∙ append_assoc (trimmed t) spaces (b ∷ []) in
      ap (folding d w) whole
      ∙ folding_append d w (trimmed t) more (so_far a) small k.folds
      ∙ ap (after_lines a.sent) (no_exception d w small (held_with a.held b))

  pub byte_tracks : (s : Progress) → Sent d w a.held b s → Tracks d w (t ++ b ∷ []) (and_then a s)
  byte_tracks s q =
      let e = trimmed_same (t ++ b ∷ []) ends_plain in
      record {
        folds = ap (folding d w) e ∙ refolded ∙ ap (after_lines a.sent) q.folds;
        text =
            sym (append-nil (t ++ b ∷ [])) ∙ ap (λ (x : Text). x ++ []) (sym e)
            ∙ ap (λ (n : ℕ). trimmed (t ++ b ∷ []) ++ replicate n space) (sym q.spaces);
        valid = q.valid;
      }

  pub byte_refused : w ≤ 998 → full d a.held ≡ true → folding d w (settled (t ++ b ∷ [])) ≡ None
  byte_refused narrow e =
      let none = from_start_none d w (held_with a.held b) (full_none d w a.held b small narrow k.valid e) in
      ap (folding d w) (settled_same (t ++ b ∷ []) ends_plain) ∙ refolded ∙ ap (after_lines a.sent) none

pub bytes_track : BytesTrack
bytes_track d w t a b small narrow k = go (eqb b space) refl (full d a.held) refl
  where
    Tracked : Option Progress → Type 0
    Tracked o = MatchOption o (folding d w (settled (t ++ b ∷ [])) ≡ None) (λ s. Tracks d w (t ++ b ∷ []) (and_then a s))

    go : (x : Bool) → eqb b space ≡ x → (y : Bool) → full d a.held ≡ y →
        Tracked (cond x (Some (count_space a.held)) (cond y None (Some (send d w a.held b))))
    go true e y f = rw (eqb-true b space e) (space_tracks d w t a k)
    go false e true f = byte_refused d w t a b small e k narrow f
    go false e false f = byte_tracks d w t a b small e k (send d w a.held b) (sent d w b small narrow e a.held k.valid f)
