-- A composer does what the rules state, order by order.
use Rattle.std.proofs.Common.{◌≡◌, ℕ, ◌≤◌, Bool, true, false, cond, List, ◌++◌, Some, None, Option, sym, refl, ap, ◌∙◌, subst, arith}
use Rattle.fault.specs.declared.fault.Fault.{Fault}
use Rattle.fault.specs.declared.cause.Cause.{Cause}
use Rattle.fault.specs.declared.layer.Layer.TheVariants.{Composer as composer_layer}
use Rattle.fault.specs.Faults.{own, leaves, raise}
use Rattle.fault.specs.Answers.{raised, or_else, answer}
use Rattle.orders.specs.declared.phase.Phase.TheVariants.{Running, Closed, Shut}
use Rattle.orders.specs.Phases.{gone}
use Rattle.orders.specs.Permits.{Filled}
use Rattle.orders.specs.Steps.{after, verdict, value, answered, shown, place_on}
use Rattle.orders.specs.Lists.{sent, sent_on, sent_fault}
use Rattle.orders.proofs.Sending.{ran_reach}
use Rattle.orders.proofs.Appending.{sent_append, sent_fault_append}
use Rattle.sink.specs.Sink.{Sink, down}
use Rattle.sink.proofs.Going.{down_going}
use Rattle.taker.specs.Paragraph.{Order, opens, texts, ends, gives_up, finishes, closes, counts, Taker}
use Rattle.taker.specs.Mail.{Paragraph}
use Rattle.layer.specs.Layer.{sends, stops, layer_means}
use Rattle.layer.proofs.Steps.{layer_verdict, layer_foot, layer_on, layer_shut, own_verdict, own_stays, own_shut, closed_verdict, closed_stays, shut_verdict, shut_stays}
use Rattle.layer.proofs.Wiring.{down_append}
use Rattle.folding.proofs.Constructors.{some_none}
use Rattle.composer.specs.Machine.{Composing, composer}
use Rattle.composer.proofs.Stirring.{composer_stirs}
use Rattle.conversation.specs.Mail.{Mail, bytes_for, place_for, mail_with}
use Rattle.conversation.specs.Rules.{own_cause, finish_cause, goes, finished, shut, SoFar, refused_own, fares, foot_by, fault_by, foot_in, standing_in, verdict_for, value_for, answer_for, next_by, next_for}
use Rattle.conversation.proofs.MailMoves.{state_for, MailOk, MovesOn, stops_as_ruled, moves_on, tells_so}

-- bytes that went down after others
module _ (m : Sink) (a b : List ℕ) (c : Bool) (h : sent_fault m (down a false) ≡ None) where
  pub went_fault : sent_fault m (down (a ++ b) c) ≡ sent_fault (sent m (down a false)) (down b c)
  went_fault =
      ap (sent_fault m) (down_append a b c)
      ∙ sent_fault_append m (down a false) (down b c)
      ∙ ap (λ (v : Option Fault). or_else v (sent_fault (sent m (down a false)) (down b c))) h

  pub went_on : sent m (down (a ++ b) c) ≡ sent (sent m (down a false)) (down b c)
  went_on =
      ap (sent m) (down_append a b c)
      ∙ sent_append m (down a false) (down b c)
      ∙ ap (λ (v : Option Fault). sent_on v (sent m (down a false)) (sent (sent m (down a false)) (down b c))) h

module _ (w : ℕ) (m : Sink) where
  -- what stands below once a mail went down
  abbrev pub went : Mail → Bool → Sink
  went mail c = sent m (down (bytes_for w mail) c)

  abbrev pub went_with : Mail → Bool → Option Fault
  went_with mail c = sent_fault m (down (bytes_for w mail) c)

  pub foot_is : (mail : Mail) (c : Bool) → (went mail c).foot ≡ foot_by w m mail c
  foot_is mail c = ap (λ (x : Filled ℕ). x.list) (ran_reach m (down (bytes_for w mail) c) c (down_going (bytes_for w mail) c))

  pub fault_is : (mail : Mail) (c : Bool) → raised (went_with mail c) ≡ fault_by w m mail c
  fault_is mail c = ap (λ (x : Filled ℕ). raised x.fault) (ran_reach m (down (bytes_for w mail) c) c (down_going (bytes_for w mail) c))

  -- a composer that stands where the rules say
  pub data Meets : SoFar → Taker ℕ → Type 0 where
    going : {mail : Mail} {t : Taker ℕ} → w ≤ 998 → MailOk w mail → went_with mail false ≡ None → t ≡ layer_means composer (went mail false) (state_for w mail) Running (place_for mail) → Meets (record { mail = mail; course = goes }) t
    over : {mail : Mail} {t : Taker ℕ} (s : Composing) → MailOk w mail → mail.begun ≡ None → went_with mail true ≡ None → t ≡ layer_means composer (went mail true) s Closed (place_for mail) → Meets (record { mail = mail; course = finished }) t
    ended : {mail tried : Mail} {c : Bool} {f : Fault} {t : Taker ℕ} (s : Composing) → t ≡ layer_means composer (went tried c) s (Shut f) (place_for mail) → Meets (record { mail = mail; course = shut f tried c }) t

  pub foot_met : {s : SoFar} {t : Taker ℕ} → Meets s t → t.foot ≡ foot_in w m s.course s.mail
  foot_met (going {mail = mail} n k h e) = ap (λ (x : Taker ℕ). x.foot) e ∙ foot_is mail false
  foot_met (over {mail = mail} s k b h e) = ap (λ (x : Taker ℕ). x.foot) e ∙ foot_is mail true
  foot_met (ended {tried = tried} {c = c} s e) = ap (λ (x : Taker ℕ). x.foot) e ∙ foot_is tried c

  pub standing_met : {s : SoFar} {t : Taker ℕ} → Meets s t → t.standing ≡ standing_in w m s.course
  standing_met (going n k h e) = ap (λ (x : Taker ℕ). x.standing) e
  standing_met (over s k b h e) = ap (λ (x : Taker ℕ). x.standing) e
  standing_met (ended s e) = ap (λ (x : Taker ℕ). x.standing) e

  -- an order does what the rules state
  pub record Met (s : SoFar) (t : Taker ℕ) (o : Order) : Type 0 where
    pub says : verdict t o ≡ verdict_for w m s o
    pub tells : answered t o ≡ answer_for w m s o
    pub next : Meets (next_for w m s o) (after t o)

  -- an answer is a value only where nothing was refused
  same_answer : {T : Type 0} (x y : T) (u v : Option Fault) → u ≡ v → (v ≡ None → x ≡ y) → answer x u ≡ answer y v
  same_answer {T} x y u v e h = ap (answer x) e ∙ go v refl
    where
      go : (z : Option Fault) → v ≡ z → answer x v ≡ answer y v
      go None q = ap (λ (a : T). answer a v) (h q)
      go (Some f) q = ap (answer x) q ∙ ap (answer y) (sym q)

  module _ (narrow : w ≤ 998) (mail : Mail) (k : MailOk w mail) (h : went_with mail false ≡ None) (o : Order) where
    abbrev below : Sink
    below = went mail false

    abbrev st : Composing
    st = state_for w mail

    abbrev n : ℕ
    n = place_for mail

    abbrev t : Taker ℕ
    t = layer_means composer below st Running n

    abbrev s : SoFar
    s = record { mail = mail; course = goes }

    abbrev mail' : Mail
    mail' = mail_with mail o

    -- refused by the composer itself
    own_met : (c : Cause) → own_cause w mail o ≡ Some c → Met s t o
    own_met c e =
        let stop = stops_as_ruled w mail k o c e in
        let says : verdict t o ≡ verdict_for w m s o = own_verdict composer below st n o c stop ∙ sym (ap (λ (r : Option Cause). or_else (refused_own r n) (fault_by w m mail' (closes o))) e) in
        let is = ap (λ (r : Option Cause). next_by w m r (fault_by w m mail' (closes o)) mail o) e in
        record {
          says = says;
          tells = same_answer (value t o) (value_for w m mail o) (verdict t o) (verdict_for w m s o) says (λ q. absurd (some_none (sym (own_verdict composer below st n o c stop) ∙ says ∙ q)));
          next = subst (λ (x : SoFar). Meets x (after t o)) (sym is) (go stop (leaves c) refl);
        }
      where
        go : composer.move st o ≡ stops c → (b : Bool) → leaves c ≡ b → Meets (record { mail = mail; course = cond (leaves c) goes (shut (own c composer_layer n) mail false) }) (after t o)
        go stop true q = subst (λ (b : Bool). Meets (record { mail = mail; course = cond b goes (shut (own c composer_layer n) mail false) }) (after t o)) (sym q) (going narrow k h (sym (own_stays composer below st n o c stop q)))
        go stop false q = subst (λ (b : Bool). Meets (record { mail = mail; course = cond b goes (shut (own c composer_layer n) mail false) }) (after t o)) (sym q) (ended st (sym (own_shut composer below st n o c stop st q)))

    module _ (e : own_cause w mail o ≡ None) (x : MovesOn w mail o) where
      abbrev c : Bool
      c = closes o

      abbrev below_fault : Option Fault
      below_fault = sent_fault below (down x.bs c)

      same_fault : went_with mail' c ≡ below_fault
      same_fault = ap (λ (l : List ℕ). sent_fault m (down l c)) x.bytes ∙ went_fault m (bytes_for w mail) x.bs c h

      same_sink : went mail' c ≡ sent below (down x.bs c)
      same_sink = ap (λ (l : List ℕ). sent m (down l c)) x.bytes ∙ went_on m (bytes_for w mail) x.bs c h

      says_below : verdict t o ≡ verdict_for w m s o
      says_below =
          layer_verdict composer below st n o x.bs (state_for w mail') x.move
          ∙ ap raised (sym same_fault)
          ∙ fault_is mail' c
          ∙ sym (ap (λ (r : Option Cause). or_else (refused_own r n) (fault_by w m mail' c)) e)

      next_is : next_for w m s o ≡ next_by w m None (raised below_fault) mail o
      next_is = ap (λ (r : Option Cause). next_by w m r (fault_by w m mail' c) mail o) e ∙ ap (λ (v : Option Fault). next_by w m None v mail o) (sym (fault_is mail' c) ∙ ap raised same_fault)

      accepted_next : below_fault ≡ None → (b : Bool) → c ≡ b → Meets (record { mail = mail'; course = fares c }) (after t o)
      accepted_next v b q = subst (λ (z : Bool). Meets (record { mail = mail'; course = fares z }) (after t o)) (sym q) (go b q)
        where
          on : layer_means composer (sent below (down x.bs c)) (state_for w mail') (gone c) (place_on (counts o) n) ≡ after t o
          on = layer_on composer below st n o x.bs (state_for w mail') x.move composer_stirs v

          is : after t o ≡ layer_means composer (went mail' c) (state_for w mail') (gone c) (place_for mail')
          is = sym on ∙ (λ i. layer_means composer (sym same_sink i) (state_for w mail') (gone c) (x.place i))

          at : (z : Bool) → c ≡ z → after t o ≡ layer_means composer (went mail' z) (state_for w mail') (gone z) (place_for mail')
          at z y = is ∙ ap (λ (z : Bool). layer_means composer (went mail' z) (state_for w mail') (gone z) (place_for mail')) y

          none : (z : Bool) → c ≡ z → went_with mail' z ≡ None
          none z y = ap (went_with mail') (sym y) ∙ same_fault ∙ v

          go : (z : Bool) → c ≡ z → Meets (record { mail = mail'; course = fares z }) (after t o)
          go false y = going narrow x.ok (none false y) (at false y)
          go true y = over (state_for w mail') x.ok (between o y e) (none true y) (at true y)
            where
              between : (p : Order) → closes p ≡ true → own_cause w mail p ≡ None → (mail_with mail p).begun ≡ None
              between (opens d) y e = let z : ◌≡◌ {A = ℕ} 0 1 = cc in absurd (omega arith)
              between (texts b) y e = let z : ◌≡◌ {A = ℕ} 0 1 = cc in absurd (omega arith)
              between (ends i) y e = let z : ◌≡◌ {A = ℕ} 0 1 = cc in absurd (omega arith)
              between (gives_up i) y e = let z : ◌≡◌ {A = ℕ} 0 1 = cc in absurd (omega arith)
              between finishes y e = closed mail.begun e
                where
                  closed : (b : Option Paragraph) → finish_cause b ≡ None → b ≡ None
                  closed None q = refl
                  closed (Some p) q = absurd (some_none q)

      met_next : Meets (next_for w m s o) (after t o)
      met_next = subst (λ (z : SoFar). Meets z (after t o)) (sym next_is) (go below_fault refl)
        where
          go : (v : Option Fault) → below_fault ≡ v → Meets (next_by w m None (raised below_fault) mail o) (after t o)
          go None v = subst (λ (z : Option Fault). Meets (next_by w m None (raised z) mail o) (after t o)) (sym v) (accepted_next v c refl)
          go (Some f) v =
              subst (λ (z : Option Fault). Meets (next_by w m None (raised z) mail o) (after t o)) (sym v)
              (ended st (sym (layer_shut composer below st n o x.bs (state_for w mail') x.move f st v) ∙ ap (λ (y : Sink). layer_means composer y st (Shut (raise f)) n) (sym same_sink)))

      value_is : value t o ≡ value_for w m mail o
      value_is = go o e x.bs x.move same_sink
        where
          go : (p : Order) → own_cause w mail p ≡ None → (bs : List ℕ) → composer.move st p ≡ sends bs (state_for w (mail_with mail p)) → went (mail_with mail p) (closes p) ≡ sent below (down bs (closes p)) → value t p ≡ value_for w m mail p
          go (opens d) e bs mv y = tells_so w narrow mail.ended mail.begun k.begun (opens d) e refl m
          go (texts b) e bs mv y = tells_so w narrow mail.ended mail.begun k.begun (texts b) e refl m
          go (ends i) e bs mv y = tells_so w narrow mail.ended mail.begun k.begun (ends i) e refl m
          go (gives_up i) e bs mv y = tells_so w narrow mail.ended mail.begun k.begun (gives_up i) e refl m
          go finishes e bs mv y =
              ap shown (layer_foot composer below st n finishes bs (state_for w mail) mv ∙ ap (λ (z : Sink). z.foot) (sym y) ∙ foot_is mail true)

      pub below_met : Met s t o
      below_met = record {
        says = says_below;
        tells = same_answer (value t o) (value_for w m mail o) (verdict t o) (verdict_for w m s o) says_below (λ q. value_is);
        next = met_next;
      }

    pub going_met : Met s t o
    going_met = go (own_cause w mail o) refl
      where
        go : (r : Option Cause) → own_cause w mail o ≡ r → Met s t o
        go (Some c) e = own_met c e
        go None e = below_met e (moves_on w narrow mail.ended k.ended mail.begun k.begun k.few o e)

  pub met : {s : SoFar} {t : Taker ℕ} → Meets s t → (o : Order) → Met s t o
  met (going {mail = mail} narrow k h e) o = subst (λ (x : Taker ℕ). Met (record { mail = mail; course = goes }) x o) (sym e) (going_met narrow mail k h o)
  met (over {mail = mail} u k b h e) o = subst (λ (x : Taker ℕ). Met (record { mail = mail; course = finished }) x o) (sym e) (record {
    says = closed_verdict composer (went mail true) u (place_for mail) o;
    tells = ap (answer (value L o)) says ∙ refl;
    next = over u k b h (sym (closed_stays composer (went mail true) u (place_for mail) o));
  })
    where
      L : Taker ℕ
      L = layer_means composer (went mail true) u Closed (place_for mail)

      says : verdict L o ≡ verdict_for w m (record { mail = mail; course = finished }) o
      says = closed_verdict composer (went mail true) u (place_for mail) o
  met (ended {mail = mail} {tried = tried} {c = c} {f = f} u e) o = subst (λ (x : Taker ℕ). Met (record { mail = mail; course = shut f tried c }) x o) (sym e) (record {
    says = shut_verdict composer (went tried c) u (place_for mail) o f;
    tells = ap (answer (value L o)) says ∙ refl;
    next = ended u (sym (shut_stays composer (went tried c) u (place_for mail) o f));
  })
    where
      L : Taker ℕ
      L = layer_means composer (went tried c) u (Shut f) (place_for mail)

      says : verdict L o ≡ verdict_for w m (record { mail = mail; course = shut f tried c }) o
      says = shut_verdict composer (went tried c) u (place_for mail) o f
