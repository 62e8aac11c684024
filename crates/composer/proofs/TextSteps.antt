-- The text of a paragraph, byte after byte: what is held and what was sent follow from the folding of the text so far.
use Rattle.std.proofs.Common.{◌≡◌, ℕ, ◌+◌, ◌<◌, ◌≤◌, true, false, not, leb, List, [], ◌∷◌, ◌++◌, length, drop, replicate, is_some, Some, None, Option, sym, refl, ap, ◌∙◌, subst, append_assoc, append-nil, arith, length-append, drop-drop, MatchOption}
use Rattle.std.specs.List.{flat_map, AllByRecursion}
use Rattle.std.proofs.lemmas.Bool.{lt-leb}
use Rattle.fault.specs.declared.cause.Cause.{Cause}
use Rattle.fault.specs.declared.cause.Cause.TheVariants.{BarredByte, OverLimit, NoFolding}
use Rattle.taker.specs.Paragraph.{texts, text_orders}
use Rattle.layer.specs.Layer.{sends}
use Rattle.folding.specs.Text.{Text, space, trimmed, settled, settled_behind}
use Rattle.folding.specs.WireLine.{wire_lines}
use Rattle.folding.specs.Folded.{Folded, after_lines}
use Rattle.folding.specs.Folding.{folding}
use Rattle.folding.specs.Laws.{FoldsOn}
use Rattle.folding.specs.Incremental.{Progress, start, put_all, so_far}
use Rattle.folding.specs.Tracking.{Tracks}
use Rattle.folding.proofs.Constructors.{same_some, some_none}
use Rattle.folding.proofs.Spaces.{trimmed_rest}
use Rattle.folding.proofs.Stays.{lines_stay, held_folds_on}
use Rattle.folding.proofs.Ending.{ends_settle, ends_track}
use Rattle.folding.proofs.Agreeing.{settled_none, text_tracks}
use Rattle.folding.proofs.WireLines.{wire_lines_append}
use Rattle.composer.specs.Machine.{Within, Composing, limit, barred, refuse_if, lacks_folding, text_refusal, flowed_of, finished_lines, behind_lines, bytes_of, next_state, moves, unless, composer}
use Rattle.composer.proofs.Holding.{last_behind}
use Rattle.composer.proofs.Histories.{Steps, step}
use Rattle.composer.proofs.Histories as histories

joined_both : (ps qs : List Text) → flat_map (λ p. p) (ps ++ qs) ≡ flat_map (λ p. p) ps ++ flat_map (λ p. p) qs
joined_both [] qs = refl
joined_both (p ∷ ps) qs = ap (λ (t : Text). p ++ t) (joined_both ps qs) ∙ sym (append_assoc p (flat_map (λ p. p) ps) (flat_map (λ p. p) qs))

-- an open paragraph, by the folding of its text so far
abbrev pub text_state : ℕ → Text → Folded → Within
text_state d t f = record { depth = d; held = behind_lines f.flowed t; lines = length f.flowed; bytes = length t }

abbrev pub open_at : ℕ → ℕ → ℕ → Text → Folded → Composing
open_at w n d t f = record { width = w; opened = n; paragraph = Some (text_state d t f) }

module _ (d w : ℕ) (small : d ≤ 100) where
  module _ (t : Text) (f : Folded) (e : folding d w (trimmed t) ≡ Some f) where
    abbrev spaces : ℕ
    spaces = (trimmed_rest t).0

    held : behind_lines f.flowed t ≡ f.last ++ replicate spaces space
    held = ap (behind_lines f.flowed) (trimmed_rest t).1 ∙ last_behind d w (trimmed t) f e (replicate spaces space)

    folds_on : FoldsOn d w t (behind_lines f.flowed t) f.flowed
    folds_on = subst (λ (x : Text). FoldsOn d w t x f.flowed) (sym held) (held_folds_on d w t spaces f small (trimmed_rest t).1 e)

    -- what is held, with a byte behind it, is what is left of the text with the byte
    held_with : (b : ℕ) → behind_lines f.flowed (t ++ b ∷ []) ≡ behind_lines f.flowed t ++ b ∷ []
    held_with b =
        ap (λ (x : Text). behind_lines f.flowed (x ++ b ∷ [])) (trimmed_rest t).1
        ∙ ap (behind_lines f.flowed) (append_assoc (trimmed t) (replicate spaces space) (b ∷ []))
        ∙ last_behind d w (trimmed t) f e (replicate spaces space ++ b ∷ [])
        ∙ sym (append_assoc f.last (replicate spaces space) (b ∷ []))
        ∙ ap (λ (x : Text). x ++ b ∷ []) (sym held)

    -- the folding with a byte more goes on from what is held
    pub record Onward (b : ℕ) (g : Folded) : Type 0 where
      pub lines : g.flowed ≡ f.flowed ++ finished_lines d w (behind_lines f.flowed t ++ b ∷ [])
      pub left : behind_lines g.flowed (t ++ b ∷ []) ≡ behind_lines (finished_lines d w (behind_lines f.flowed t ++ b ∷ [])) (behind_lines f.flowed t ++ b ∷ [])

    pub onward : (b : ℕ) (g : Folded) → folding d w (trimmed (t ++ b ∷ [])) ≡ Some g → Onward b g
    onward b g q = go (folding d w (trimmed h)) refl (sym (folds_on.so_far (b ∷ [])) ∙ q)
      where
        h : Text
        h = behind_lines f.flowed t ++ b ∷ []

        go : (o : Option Folded) → folding d w (trimmed h) ≡ o → after_lines f.flowed o ≡ Some g → Onward b g
        go None i j = absurd (some_none (sym j))
        go (Some k) i j =
            let lines : g.flowed ≡ f.flowed ++ finished_lines d w h = ap (λ (x : Folded). x.flowed) (sym (same_some j)) ∙ ap (λ (o : Option Folded). f.flowed ++ flowed_of o) (sym i) in
            let front = flat_map (λ (p : Text). p) f.flowed in
            let more = flat_map (λ (p : Text). p) (finished_lines d w h) in
            record {
              lines = lines;
              left =
                  ap (λ (ps : List Text). behind_lines ps (t ++ b ∷ [])) lines
                  ∙ ap (λ (x : Text). drop (length x) (t ++ b ∷ [])) (joined_both f.flowed (finished_lines d w h))
                  ∙ ap (λ (n : ℕ). drop n (t ++ b ∷ [])) (length-append front more)
                  ∙ sym (drop-drop (length more) (length front) (t ++ b ∷ []))
                  ∙ ap (drop (length more)) (held_with b);
            }

    -- a byte is refused for want of a folding exactly where the text through it, settled, has none
    pub lacks_folding_is : (b : ℕ) → lacks_folding w (text_state d t f) b ≡ not (is_some (folding d w (settled (t ++ b ∷ []))))
    lacks_folding_is b = ap not (go (folding d w (settled_behind (length f.flowed) (behind_lines f.flowed t ++ b ∷ []))) ∙ ap is_some (sym (folds_on.at_end (b ∷ []))))
      where
        go : (o : Option Folded) → is_some o ≡ is_some (after_lines f.flowed o)
        go None = refl
        go (Some x) = refl

    -- an accepted byte
    module _ (n b : ℕ) (text : barred b ≡ false) (few : length t < limit) (g : Folded) (q : folding d w (trimmed (t ++ b ∷ [])) ≡ Some g) where
      abbrev ps : List Text
      ps = finished_lines d w (behind_lines f.flowed t ++ b ∷ [])

      foldable : is_some (folding d w (settled (t ++ b ∷ []))) ≡ true
      foldable = go (folding d w (settled (t ++ b ∷ []))) refl
        where
          go : (o : Option Folded) → folding d w (settled (t ++ b ∷ [])) ≡ o → is_some o ≡ true
          go None i = absurd (some_none (sym q ∙ (settled_none d w small (t ++ b ∷ [])).0 i))
          go (Some x) i = refl

      allowed : text_refusal w b (Some (text_state d t f)) ≡ None
      allowed =
          let folds : lacks_folding w (text_state d t f) b ≡ false = lacks_folding_is b ∙ ap not foldable in
          let under : leb limit (length t) ≡ false = lt-leb limit (length t) few in
          λ i. refuse_if (text i) BarredByte (refuse_if (under i) OverLimit (refuse_if (folds i) NoFolding None))

      pub text_step : moves (open_at w n d t f) (texts b) ≡ sends (wire_lines d ps) (open_at w n d (t ++ b ∷ []) g)
      text_step =
          let k = onward b g q in
          let lines : length f.flowed + length ps ≡ length g.flowed = sym (ap length k.lines ∙ length-append f.flowed ps) in
          let bytes : length t + 1 ≡ length (t ++ b ∷ []) = sym (length-append t (b ∷ [])) in
          ap (λ (x : Option Cause). unless x (sends (bytes_of (open_at w n d t f) (texts b)) (next_state (open_at w n d t f) (texts b)))) allowed
          ∙ (λ i. sends (wire_lines d ps) (record { width = w; opened = n; paragraph = Some (record { depth = d; held = sym k.left i; lines = lines i; bytes = bytes i }) }))

  -- the bytes of a text
  pub record Texted (n : ℕ) (t u : Text) (f g : Folded) : Type 0 where
    pub more : List Text
    pub lines : g.flowed ≡ f.flowed ++ more
    pub steps : Steps composer (open_at w n d t f) (text_orders u) (wire_lines d more) (open_at w n d (t ++ u) g)

  pub text_steps : (n : ℕ) (u t : Text) (f g : Folded) → folding d w (trimmed t) ≡ Some f → folding d w (trimmed (t ++ u)) ≡ Some g → AllByRecursion (λ b. barred b ≡ false) u → length (t ++ u) ≤ limit → Texted n t u f g
  text_steps n [] t f g e q p l =
      let same : f ≡ g = same_some (sym e ∙ ap (λ (x : Text). folding d w (trimmed x)) (sym (append-nil t)) ∙ q) in
      record {
        more = [];
        lines = ap (λ (x : Folded). x.flowed) (sym same) ∙ sym (append-nil f.flowed);
        steps = subst (λ (s : Composing). Steps composer (open_at w n d t f) [] [] s) (λ i. open_at w n d (sym (append-nil t) i) (same i)) histories.start;
      }
  text_steps n (b ∷ u) t f g e q (text, p) l =
      let assoc = append_assoc t (b ∷ []) u in
      let longer = ap (λ (x : Text). folding d w (trimmed x)) assoc ∙ q in
      let k = lines_stay d w (t ++ b ∷ []) u g small longer in
      let few : length t < limit = omega (arith, length-append t (b ∷ u)) in
      let on = onward t f e b k.shorter k.folds in
      let one = text_step t f e n b text few k.shorter k.folds in
      let rest = text_steps n u (t ++ b ∷ []) k.shorter g k.folds longer p (omega (arith, ap length assoc)) in
      let first = finished_lines d w (behind_lines f.flowed t ++ b ∷ []) in
      record {
        more = first ++ rest.more;
        lines = rest.lines ∙ ap (λ (x : List Text). x ++ rest.more) on.lines ∙ append_assoc f.flowed first rest.more;
        steps = subst (λ (l : Text). Steps composer (open_at w n d t f) (text_orders (b ∷ u)) l (open_at w n d (t ++ b ∷ u) g)) (sym (wire_lines_append d first rest.more))
            (subst (λ (x : Text). Steps composer (open_at w n d t f) (text_orders (b ∷ u)) (wire_lines d first ++ wire_lines d rest.more) (open_at w n d x g)) assoc (step one refl rest.steps));
      }

  -- the end completes the folding of the settled text
  pub end_folds : w ≤ 998 → (t : Text) (f : Folded) → folding d w (trimmed t) ≡ Some f → folding d w (settled t) ≡ Some (record { flowed = f.flowed; last = settled_behind (length f.flowed) (behind_lines f.flowed t) })
  end_folds narrow t f e = go (put_all d w start t) (text_tracks d w small narrow t)
    where
      go : (o : Option Progress) → MatchOption o (folding d w (trimmed t) ≡ None) (Tracks d w t) → folding d w (settled t) ≡ Some (record { flowed = f.flowed; last = settled_behind (length f.flowed) (behind_lines f.flowed t) })
      go None x = absurd (some_none (sym e ∙ x))
      go (Some a) k =
          let same : so_far a ≡ f = same_some (sym k.folds ∙ e) in
          let sent = ap (λ (x : Folded). x.flowed) same in
          let line = ap (λ (x : Folded). x.last) same in
          let left : behind_lines f.flowed t ≡ a.held.line ++ replicate a.held.spaces space =
          ap (behind_lines f.flowed) k.text ∙ last_behind d w (trimmed t) f e (replicate a.held.spaces space)
          ∙ ap (λ (x : Text). x ++ replicate a.held.spaces space) (sym line) in
          ends_track d w t a small k
          ∙ ap (λ (x : Text). Some (record { flowed = a.sent; last = x })) (ends_settle (length a.sent) a.held k.valid.no_space)
          ∙ (λ i. Some (record { flowed = sent i; last = settled_behind (length (sent i)) (sym left i) }))
