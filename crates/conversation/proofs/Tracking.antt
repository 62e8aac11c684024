-- The settled paragraphs of a history are those of the mail that the rules accept.
use Rattle.std.proofs.Common.{◌≡◌, ℕ, suc, ◌+◌, Bool, true, false, cond, not, leb, ◌⊎◌, List, [], ◌∷◌, ◌++◌, map, length, take, is_some, Some, None, Ok, Err, Option, Result, sym, refl, ap, ◌∙◌, subst, ap₂, inl, inr, ⊎_elim, append_assoc, append-nil, one-add, arith}
use Rattle.fault.specs.declared.fault.Fault.{Fault}
use Rattle.fault.specs.declared.cause.Cause.{Cause}
use Rattle.fault.specs.declared.cause.Cause.TheVariants.{NoParagraph, AfterClose, AfterShut, BarredByte, OverLimit, NoFolding}
use Rattle.fault.specs.declared.layer.Layer.TheVariants.{Composer as composer_layer}
use Rattle.fault.specs.Faults.{own, leaves}
use Rattle.fault.specs.Answers.{answer, or_else}
use Rattle.sink.specs.Sink.{Sink}
use Rattle.taker.specs.Paragraph.{Order, texts, finishes, closes, barred, Taker, text_orders}
use Rattle.taker.specs.Mail.{Paragraph}
use Rattle.folding.specs.Text.{settled}
use Rattle.folding.specs.Folding.{folding}
use Rattle.folding.proofs.Constructors.{same_some, some_none}
use Rattle.history.specs.History.{Ask, to_open, to_end, to_give_up, to_finish, order, Step, asked, fed, Reached, begun, asks, feeds}
use Rattle.history.specs.Orders.{orders}
use Rattle.history.specs.Stated.{tally}
use Rattle.history.specs.Settled.{settle, Track, joined, listing, noted, track, finish_in, has_finished}
use Rattle.composer.specs.Machine.{limit, refuse_if}
use Rattle.composer.specs.Composers.{good_start, new_means}
use Rattle.conversation.specs.Mail.{Mail, with_text, with_ended, place_for, mail_with}
use Rattle.conversation.specs.Rules.{text_cause, own_cause, Course, goes, finished, shut, SoFar, at_first, refused_own, fault_by, verdict_in, verdict_for, value_for, answer_for, next_by, next_in, next_for, follows, bytes_taken, start_for, reached_by}
use Rattle.conversation.proofs.Ruling.{met}
use Rattle.conversation.proofs.AsRuled.{as_ruled, reached_met}

abbrev pub track_of : Mail → Track
track_of m = record { begun = m.begun; listed = map settle m.ended }

map_push : (ps : List Paragraph) (p : Paragraph) → map settle (ps ++ p ∷ []) ≡ map settle ps ++ settle p ∷ []
map_push [] p = refl
map_push (q ∷ ps) p = ap (λ (l : List Paragraph). settle q ∷ l) (map_push ps p)

listed_so : (ps : List Paragraph) (b : Option Paragraph) → listing b (map settle ps) ≡ map settle (with_ended ps b)
listed_so ps None = refl
listed_so ps (Some p) = sym (map_push ps p)

-- an accepted order
noted_ok : (a : Ask) (n : ℕ) (m : Mail) → noted a (Ok n) (track_of m) ≡ track_of (mail_with m (order a))
noted_ok (to_open d) n m = refl
noted_ok (to_end k) n m = ap (λ (l : List Paragraph). record { begun = None; listed = l }) (listed_so m.ended m.begun)
noted_ok (to_give_up k) n m = refl
noted_ok to_finish n m = refl

noted_err : (a : Ask) (f : Fault) (t : Track) → noted a (Err f) t ≡ t
noted_err (to_open d) f t = refl
noted_err (to_end k) f t = refl
noted_err (to_give_up k) f t = refl
noted_err to_finish f t = refl

finish_err : (a : Ask) (f : Fault) (b : Bool) → finish_in a (Err f) b ≡ b
finish_err (to_open d) f b = refl
finish_err (to_end k) f b = refl
finish_err (to_give_up k) f b = refl
finish_err to_finish f b = refl

joined_none : (b : Option Paragraph) → joined b [] ≡ b
joined_none None = refl
joined_none (Some p) = ap (λ (t : List ℕ). Some (record { depth = p.depth; text = t })) (append-nil p.text)

joined_on : (b : Option Paragraph) (c : ℕ) (l : List ℕ) → joined (with_text b c) l ≡ joined b (c ∷ l)
joined_on None c l = refl
joined_on (Some p) c l = ap (λ (t : List ℕ). Some (record { depth = p.depth; text = t })) (append_assoc p.text (c ∷ []) l)

text_hard : (w b : ℕ) (p : Option Paragraph) (c : Cause) → text_cause w b p ≡ Some c → (p ≡ None) ⊎ (leaves c ≡ false)
text_hard w b None c e = inl refl
text_hard w b (Some p) c e = inr (go (barred b) (leb limit (length p.text)) (not (is_some (folding p.depth w (settled (p.text ++ b ∷ []))))) e)
  where
    go : (x y z : Bool) → refuse_if x BarredByte (refuse_if y OverLimit (refuse_if z NoFolding None)) ≡ Some c → leaves c ≡ false
    go true y z e = ap leaves (sym (same_some e))
    go false true z e = ap leaves (sym (same_some e))
    go false false true e = ap leaves (sym (same_some e))
    go false false false e = absurd (some_none (sym e))

module _ (w : ℕ) (m : Sink) where
  pub follows_append : (s : SoFar) (p q : List Order) → follows w m s (p ++ q) ≡ follows w m (follows w m s p) q
  follows_append s [] q = refl
  follows_append s (o ∷ p) q = follows_append (next_for w m s o) p q

  taken_append : (s : SoFar) (p q : List Order) (n : ℕ) → bytes_taken w m s (p ++ q) n ≡ bytes_taken w m (follows w m s p) q (bytes_taken w m s p n)
  taken_append s [] q n = refl
  taken_append s (o ∷ p) q n = taken_append (next_for w m s o) p q (tally o (verdict_for w m s o) n)

  -- what an order comes to where it is not refused, and the mail where it is
  pub data Came (s : SoFar) (o : Order) : Type 0 where
    taken : verdict_for w m s o ≡ None → (next_for w m s o).mail ≡ mail_with s.mail o → s.course ≡ goes → Came s o
    refused : {f : Fault} → verdict_for w m s o ≡ Some f → (next_for w m s o).mail ≡ s.mail → Came s o

  pub came : (s : SoFar) (o : Order) → Came s o
  came s o = go s.course refl
    where
      going : (c : Option Cause) (v : Option Fault) → own_cause w s.mail o ≡ c → fault_by w m (mail_with s.mail o) (closes o) ≡ v → s.course ≡ goes → Came s o
      going c v e f q = by c v (ap₂ (λ (x : Option Cause) (y : Option Fault). or_else (refused_own x (place_for s.mail)) y) e f) (ap₂ (λ (x : Option Cause) (y : Option Fault). next_by w m x y s.mail o) e f)
        where
          says : verdict_for w m s o ≡ verdict_in w m goes s.mail o
          says = ap (λ (x : Course). verdict_in w m x s.mail o) q

          leads : next_for w m s o ≡ next_in w m goes s.mail o
          leads = ap (λ (x : Course). next_in w m x s.mail o) q

          by : (c : Option Cause) (v : Option Fault) → verdict_in w m goes s.mail o ≡ or_else (refused_own c (place_for s.mail)) v → next_in w m goes s.mail o ≡ next_by w m c v s.mail o → Came s o
          by (Some c) v x y = refused (says ∙ x) (ap (λ (z : SoFar). z.mail) (leads ∙ y))
          by None (Some g) x y = refused (says ∙ x) (ap (λ (z : SoFar). z.mail) (leads ∙ y))
          by None None x y = taken (says ∙ x) (ap (λ (z : SoFar). z.mail) (leads ∙ y)) q

      go : (c : Course) → s.course ≡ c → Came s o
      go goes q = going (own_cause w s.mail o) (fault_by w m (mail_with s.mail o) (closes o)) refl refl q
      go finished q = refused (ap (λ (x : Course). verdict_in w m x s.mail o) q) (ap (λ (x : Course). (next_in w m x s.mail o).mail) q)
      go (shut f t c) q = refused (ap (λ (x : Course). verdict_in w m x s.mail o) q) (ap (λ (x : Course). (next_in w m x s.mail o).mail) q)

  noted_so : (s : SoFar) (a : Ask) → noted a (answer_for w m s (order a)) (track_of s.mail) ≡ track_of (next_for w m s (order a)).mail
  noted_so s a = go (came s (order a))
    where
      go : Came s (order a) → noted a (answer_for w m s (order a)) (track_of s.mail) ≡ track_of (next_for w m s (order a)).mail
      go (taken e l q) = ap (λ (x : Option Fault). noted a (answer (value_for w m s.mail (order a)) x) (track_of s.mail)) e ∙ noted_ok a (value_for w m s.mail (order a)) s.mail ∙ ap track_of (sym l)
      go (refused {f} e l) = ap (λ (x : Option Fault). noted a (answer (value_for w m s.mail (order a)) x) (track_of s.mail)) e ∙ noted_err a f (track_of s.mail) ∙ ap track_of (sym l)

  -- every text byte is refused and changes nothing
  pub data Deaf : SoFar → Type 0 where
    none_open : {s : SoFar} → s.course ≡ goes → s.mail.begun ≡ None → Deaf s
    is_over : {s : SoFar} → s.course ≡ finished → Deaf s
    is_shut : {s : SoFar} {f : Fault} {t : Mail} {c : Bool} → s.course ≡ shut f t c → Deaf s

  pub record Unheard (s : SoFar) (b : ℕ) : Type 0 where
    pub fault : Fault
    pub says : verdict_for w m s (texts b) ≡ Some fault
    pub leads : next_for w m s (texts b) ≡ s

  unheard : {s : SoFar} → Deaf s → (b : ℕ) → Unheard s b
  unheard {s} (none_open q e) b =
      let cause : own_cause w s.mail (texts b) ≡ Some NoParagraph = ap (λ (x : Option Paragraph). text_cause w b x) e in
      record {
        fault = own NoParagraph composer_layer (place_for s.mail);
        says = ap (λ (x : Course). verdict_in w m x s.mail (texts b)) q ∙ ap (λ (x : Option Cause). or_else (refused_own x (place_for s.mail)) (fault_by w m (mail_with s.mail (texts b)) false)) cause;
        leads =
            ap (λ (x : Course). next_in w m x s.mail (texts b)) q
            ∙ ap (λ (x : Option Cause). next_by w m x (fault_by w m (mail_with s.mail (texts b)) false) s.mail (texts b)) cause
            ∙ ap (λ (x : Course). record { mail = s.mail; course = x }) (sym q);
      }
  unheard {s} (is_over q) b = record {
    fault = own AfterClose composer_layer (place_for s.mail);
    says = ap (λ (x : Course). verdict_in w m x s.mail (texts b)) q;
    leads = ap (λ (x : Course). next_in w m x s.mail (texts b)) q ∙ ap (λ (x : Course). record { mail = s.mail; course = x }) (sym q);
  }
  unheard {s} (is_shut q) b = record {
    fault = own AfterShut composer_layer (place_for s.mail);
    says = ap (λ (x : Course). verdict_in w m x s.mail (texts b)) q;
    leads = ap (λ (x : Course). next_in w m x s.mail (texts b)) q ∙ ap (λ (x : Course). record { mail = s.mail; course = x }) (sym q);
  }

  deaf_follows : {s : SoFar} → Deaf s → (bs : List ℕ) → follows w m s (text_orders bs) ≡ s
  deaf_follows d [] = refl
  deaf_follows {s} d (b ∷ bs) = ap (λ (x : SoFar). follows w m x (text_orders bs)) (unheard d b).leads ∙ deaf_follows d bs

  deaf_taken : {s : SoFar} → Deaf s → (bs : List ℕ) (n : ℕ) → bytes_taken w m s (text_orders bs) n ≡ n
  deaf_taken d [] n = refl
  deaf_taken {s} d (b ∷ bs) n =
      ap₂ (λ (x : SoFar) (v : Option Fault). bytes_taken w m x (text_orders bs) (tally (texts b) v n)) (unheard d b).leads (unheard d b).says
      ∙ deaf_taken d bs n

  -- after a text byte that was refused, all are
  deaf_then : (s : SoFar) (b : ℕ) (f : Fault) → verdict_for w m s (texts b) ≡ Some f → Deaf (next_for w m s (texts b))
  deaf_then s b f v = go s.course refl
    where
      going : (c : Option Cause) (x : Option Fault) → text_cause w b s.mail.begun ≡ c → fault_by w m (mail_with s.mail (texts b)) false ≡ x → s.course ≡ goes → Deaf (next_for w m s (texts b))
      going c x e g q = subst Deaf (sym (ap (λ (y : Course). next_in w m y s.mail (texts b)) q ∙ ap₂ (λ (y : Option Cause) (z : Option Fault). next_by w m y z s.mail (texts b)) e g)) (by c x e (sym (ap (λ (y : Course). verdict_in w m y s.mail (texts b)) q ∙ ap₂ (λ (y : Option Cause) (z : Option Fault). or_else (refused_own y (place_for s.mail)) z) e g) ∙ v))
        where
          by : (c : Option Cause) (x : Option Fault) → text_cause w b s.mail.begun ≡ c → or_else (refused_own c (place_for s.mail)) x ≡ Some f → Deaf (next_by w m c x s.mail (texts b))
          by None None e y = absurd (some_none (sym y))
          by None (Some g) e y = is_shut refl
          by (Some c) x e y = ⊎_elim (λ none. mild (leaves c) refl none) (λ hard. subst Deaf (sym (ap at hard)) (is_shut refl)) (text_hard w b s.mail.begun c e)
            where
              at : Bool → SoFar
              at z = record { mail = s.mail; course = cond z goes (shut (own c composer_layer (place_for s.mail)) s.mail false) }

              mild : (z : Bool) → leaves c ≡ z → s.mail.begun ≡ None → Deaf (next_by w m (Some c) x s.mail (texts b))
              mild true q none = subst Deaf (sym (ap at q)) (none_open refl none)
              mild false q none = subst Deaf (sym (ap at q)) (is_shut refl)

      go : (c : Course) → s.course ≡ c → Deaf (next_for w m s (texts b))
      go goes q = going (own_cause w s.mail (texts b)) (fault_by w m (mail_with s.mail (texts b)) false) refl refl q
      go finished q = subst Deaf (sym (ap (λ (x : Course). next_in w m x s.mail (texts b)) q)) (is_over refl)
      go (shut g t c) q = subst Deaf (sym (ap (λ (x : Course). next_in w m x s.mail (texts b)) q)) (is_shut refl)

  taken_from : (bs : List ℕ) (s : SoFar) (n : ℕ) → bytes_taken w m s (text_orders bs) n ≡ n + bytes_taken w m s (text_orders bs) 0
  taken_from [] s n = omega arith
  taken_from (b ∷ bs) s n = go (verdict_for w m s (texts b)) (taken_from bs (next_for w m s (texts b)))
    where
      s' : SoFar
      s' = next_for w m s (texts b)

      go : (v : Option Fault) → ((k : ℕ) → bytes_taken w m s' (text_orders bs) k ≡ k + bytes_taken w m s' (text_orders bs) 0) → bytes_taken w m s' (text_orders bs) (tally (texts b) v n) ≡ n + bytes_taken w m s' (text_orders bs) (tally (texts b) v 0)
      go None ih = let x = ih (n + 1) in let y = ih 1 in omega arith
      go (Some f) ih = ih n

  abbrev pub fed_mail : Mail → List ℕ → Mail
  fed_mail k l = record { ended = k.ended; begun = joined k.begun l }

  -- accepted bytes join the text
  pub texts_mail : (bs : List ℕ) (s : SoFar) → (follows w m s (text_orders bs)).mail ≡ fed_mail s.mail (take (bytes_taken w m s (text_orders bs) 0) bs)
  texts_mail [] s = ap (λ (b : Option Paragraph). record { ended = s.mail.ended; begun = b }) (sym (joined_none s.mail.begun))
  texts_mail (b ∷ bs) s = go (came s (texts b)) (texts_mail bs s')
    where
      s' : SoFar
      s' = next_for w m s (texts b)

      rest : ℕ
      rest = bytes_taken w m s' (text_orders bs) 0

      goal : ℕ → Type 0
      goal c = (follows w m s' (text_orders bs)).mail ≡ fed_mail s.mail (take c (b ∷ bs))

      go : Came s (texts b) → (follows w m s' (text_orders bs)).mail ≡ fed_mail s'.mail (take rest bs) → goal (bytes_taken w m s (text_orders (b ∷ bs)) 0)
      go (taken e l q) ih =
          let count : suc rest ≡ bytes_taken w m s (text_orders (b ∷ bs)) 0 =
          sym (ap (λ (v : Option Fault). bytes_taken w m s' (text_orders bs) (tally (texts b) v 0)) e ∙ taken_from bs s' 1 ∙ one-add rest) in
          subst goal count (ih ∙ ap (λ (k : Mail). fed_mail k (take rest bs)) l ∙ ap (λ (x : Option Paragraph). record { ended = s.mail.ended; begun = x }) (joined_on s.mail.begun b (take rest bs)))
      go (refused {f} e l) ih =
          let d = deaf_then s b f e in
          let count : 0 ≡ bytes_taken w m s (text_orders (b ∷ bs)) 0 = sym (ap (λ (v : Option Fault). bytes_taken w m s' (text_orders bs) (tally (texts b) v 0)) e ∙ deaf_taken d bs 0) in
          subst goal count (ap (λ (x : SoFar). x.mail) (deaf_follows d bs) ∙ l ∙ ap (λ (x : Option Paragraph). record { ended = s.mail.ended; begun = x }) (sym (joined_none s.mail.begun)))

  -- where it has finished, nothing changes any more
  over_follows : (os : List Order) (s : SoFar) → s.course ≡ finished → (follows w m s os).course ≡ finished
  over_follows [] s q = q
  over_follows (o ∷ os) s q = over_follows os (next_for w m s o) (ap (λ (x : Course). (next_in w m x s.mail o).course) q)

  finish_so : (s : SoFar) (a : Ask) (b : Bool) → (b ≡ true → s.course ≡ finished) → finish_in a (answer_for w m s (order a)) b ≡ true → (next_for w m s (order a)).course ≡ finished
  finish_so s a b h e = go (came s (order a))
    where
      before : b ≡ true → (next_for w m s (order a)).course ≡ finished
      before q = over_follows (order a ∷ []) s (h q)

      ok : (x : Ask) → (n : ℕ) → finish_in x (Ok n) b ≡ true → (x ≡ to_finish) ⊎ (b ≡ true)
      ok (to_open d) n e = inr e
      ok (to_end k) n e = inr e
      ok (to_give_up k) n e = inr e
      ok to_finish n e = inl refl

      done : s.course ≡ goes → verdict_for w m s finishes ≡ None → (next_for w m s finishes).course ≡ finished
      done q v = by (own_cause w s.mail finishes) (fault_by w m s.mail true) refl refl
        where
          by : (c : Option Cause) (x : Option Fault) → own_cause w s.mail finishes ≡ c → fault_by w m s.mail true ≡ x → (next_for w m s finishes).course ≡ finished
          by c x i j = at c x (sym (ap (λ (y : Course). verdict_in w m y s.mail finishes) q ∙ ap₂ (λ (y : Option Cause) (z : Option Fault). or_else (refused_own y (place_for s.mail)) z) i j) ∙ v) (ap (λ (y : Course). next_in w m y s.mail finishes) q ∙ ap₂ (λ (y : Option Cause) (z : Option Fault). next_by w m y z s.mail finishes) i j)
            where
              at : (c : Option Cause) (x : Option Fault) → or_else (refused_own c (place_for s.mail)) x ≡ None → next_for w m s finishes ≡ next_by w m c x s.mail finishes → (next_for w m s finishes).course ≡ finished
              at (Some c) x i j = absurd (some_none i)
              at None (Some f) i j = absurd (some_none i)
              at None None i j = ap (λ (z : SoFar). z.course) j

      go : Came s (order a) → (next_for w m s (order a)).course ≡ finished
      go (refused {f} v l) = before (sym (ap (λ (x : Option Fault). finish_in a (answer (value_for w m s.mail (order a)) x) b) v ∙ finish_err a f b) ∙ e)
      go (taken v l q) =
          ⊎_elim (λ is. subst (λ (x : Ask). (next_for w m s (order x)).course ≡ finished) (sym is) (done q (subst (λ (x : Ask). verdict_for w m s (order x) ≡ None) is v))) before
          (ok a (value_for w m s.mail (order a)) (sym (ap (λ (x : Option Fault). finish_in a (answer (value_for w m s.mail (order a)) x) b) v) ∙ e))

  -- the paragraphs that follow from orders and answers are those of the mail that the rules accept
  pub record Tracked (h : List Step) : Type 0 where
    pub mail : track h ≡ track_of (reached_by w m (orders h)).mail
    pub over : has_finished h ≡ true → (reached_by w m (orders h)).course ≡ finished

  pub tracked : (h : List Step) (t : Taker ℕ) → Reached (new_means w m) h t → Tracked h
  tracked [] t (begun l e) = record { mail = start_track (good_start w m.fresh); over = λ q. let z : ◌≡◌ {A = ℕ} 0 1 = cc in absurd (omega arith) }
    where
      start_track : (b : Bool) → record { begun = None; listed = [] } ≡ track_of (at_first b).mail
      start_track true = refl
      start_track false = refl
  tracked (asked a r ∷ h) t (asks {m = t'} p _ _ q e l) =
      let ih = tracked h t' p in
      let s = reached_by w m (orders h) in
      let k = reached_met w m h t' p in
      let answer : r ≡ answer_for w m s (order a) = q ∙ (met w m k (order a)).tells in
      let on = follows_append (start_for w m) (orders h) (order a ∷ []) in
      record {
        mail = ap₂ (λ (x : Result ℕ Fault) (y : Track). noted a x y) answer ih.mail ∙ noted_so s a ∙ ap (λ (x : SoFar). track_of x.mail) (sym on);
        over = λ f. ap (λ (x : SoFar). x.course) on ∙ finish_so s a (has_finished h) ih.over (sym (ap (λ (x : Result ℕ Fault). finish_in a x (has_finished h)) answer) ∙ f);
      }
  tracked (fed bs c f ∷ h) t (feeds {m = t'} p _ _ _ q g e u l) =
      let ih = tracked h t' p in
      let s = reached_by w m (orders h) in
      let on = follows_append (start_for w m) (orders h) (text_orders bs) in
      let before = (as_ruled w m h t' p).bytes in
      let behind = (as_ruled w m (fed bs c f ∷ h) t (feeds p bs c f q g e u l)).bytes in
      let both = taken_append (start_for w m) (orders h) (text_orders bs) 0 in
      let from = taken_from bs s (bytes_taken w m (start_for w m) (orders h) 0) in
      let count : c ≡ bytes_taken w m s (text_orders bs) 0 = omega arith in
      record {
        mail =
            ap₂ (λ (x : Track) (n : ℕ). record { begun = joined x.begun (take n bs); listed = x.listed }) ih.mail count
            ∙ ap track_of (sym (texts_mail bs s))
            ∙ ap (λ (x : SoFar). track_of x.mail) (sym on);
        over = λ f. ap (λ (x : SoFar). x.course) on ∙ over_follows (text_orders bs) s (ih.over f);
      }
