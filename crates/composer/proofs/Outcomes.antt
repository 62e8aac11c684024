-- What an order comes to, by what the code found.
use Rattle.std.proofs.Common.{◌≡◌, ℕ, Bool, true, false, cond, not, eqb, List, Some, None, Ok, Err, Option, Result, IfOk, unwrap_or, sym, refl, ap, ap₂, ◌∙◌, subst}
use Rattle.std.specs.Result.{result_err}
use Rattle.fault.specs.declared.fault.Fault.{Fault}
use Rattle.fault.specs.declared.cause.Cause.{Cause}
use Rattle.fault.specs.declared.cause.Cause.TheVariants.{AfterClose, AfterShut, WrongNumber, GivenUp}
use Rattle.fault.specs.declared.layer_fault.LayerFault.{LayerFault}
use Rattle.fault.specs.declared.layer.Layer.TheVariants.{Composer as composer_layer}
use Rattle.fault.specs.Faults.{own, leaves}
use Rattle.fault.specs.Answers.{raised, answer, told}
use Rattle.fault.specs.Kinds.{layer_fault}
use Rattle.orders.specs.declared.phase.Phase.{Phase}
use Rattle.orders.specs.declared.phase.Phase.TheVariants.{Running, Closed, Shut}
use Rattle.orders.specs.Phases.{phased, gone}
use Rattle.orders.specs.Behind.{Behind}
use Rattle.orders.specs.Steps.{after, answered, value, verdict, shown, place_on}
use Rattle.orders.specs.Lists.{sent, sent_fault}
use Rattle.orders.proofs.Answering.{answer_err, answer_ok}
use Rattle.orders.proofs.Did.{Did}
use Rattle.sink.specs.Sink.{Sink, down}
use Rattle.taker.specs.Paragraph.{Order, Taker, closes, counts}
use Rattle.layer.specs.Layer.{sends, stops, layer_means}
use Rattle.layer.proofs.ByPhase.{in_closed, in_shut, in_mild, in_own, in_ok, in_err, ok_value}
use Rattle.composer.specs.declared.composer.Composer.{Composer}
use Rattle.composer.specs.declared.paragraph.Paragraph.{Paragraph}
use Rattle.composer.specs.Keeping.{Keeps, keeps_same}
use Rattle.composer.specs.Machine.{Within, Composing, refuse_if, end_refusal, give_up_refusal, refusal, bytes_of, next_state, tells, moves, unless, composer}
use Rattle.composer.specs.Allowing.{allowed, allowed_in}
use Rattle.composer.specs.Sending.{done}
use Rattle.composer.specs.Paragraphs.{within_of}
use Rattle.composer.specs.Composers.{state_of, means_of, refused_phase, Refuses, Checks, answered_phase}
use Rattle.composer.proofs.Sends.{after_grows}
use Rattle.composer.proofs.Stirring.{composer_stirs}

-- the foot grew, and the memory behind it stands
pub kept : (m n : Taker ℕ) (o : Order) (x y : List ℕ) → n ≡ after m o → Behind n.foot x y → Keeps m.foot n.foot x y
kept m n o x y e b =
    let g = after_grows m o in
    record { grows = record { more = g.more; grown = ap (λ (t : Taker ℕ). t.foot) e ∙ g.grown }; behind = b }

-- what the answer to "may it be taken" tells
allowed_err : (r : Option Cause) (x : Cause) → allowed r ≡ Err x → r ≡ Some x
allowed_err None x e = cc
allowed_err (Some c) x e = cc

allowed_ok : (r : Option Cause) → allowed r ≡ Ok tt → r ≡ None
allowed_ok None e = refl
allowed_ok (Some c) e = cc

-- an order that may be taken
pub went_on : {F : Type 0} (ph : Phase F) (r : Option Cause) → allowed_in ph r ≡ Ok tt → (ph ≡ Running) × (r ≡ None)
went_on Running r e = (refl, allowed_ok r e)
went_on Closed r e = cc
went_on (Shut f) r e = cc

module _ (m : Sink) (s : Composing) (ph : Phase LayerFault) (n : ℕ) (o : Order) where
  abbrev here : Taker ℕ
  here = layer_means composer m s (phased layer_fault ph) n

  -- a refusal of its own
  pub was_refused : (x : Cause) → allowed_in ph (refusal s o) ≡ Err x → (f : LayerFault) → layer_fault f ≡ own x composer_layer n → Did here (layer_means composer m s (phased layer_fault (refused_phase x f ph)) n) o (Some (layer_fault f))
  was_refused x e f is = go ph refl e
    where
      over : (y : Cause) → leaves y ≡ true → Did here here o (Some (own y composer_layer n)) → y ≡ x → Did here (layer_means composer m s (phased layer_fault (refused_phase x f ph)) n) o (Some (layer_fault f))
      over y mild d q = rw (is, ← q, mild) d

      stopped : (b : Bool) → leaves x ≡ b → ph ≡ Running → moves s o ≡ stops x → Did here (layer_means composer m s (phased layer_fault (cond b ph (Shut f))) n) o (Some (layer_fault f))
      stopped true q run stop = rw is (in_mild composer layer_fault m s ph n o run x stop q)
      stopped false q run stop = in_own composer layer_fault m s ph n o run x stop q (layer_fault f) is s

      go : (p : Phase LayerFault) → ph ≡ p → allowed_in p (refusal s o) ≡ Err x → Did here (layer_means composer m s (phased layer_fault (refused_phase x f ph)) n) o (Some (layer_fault f))
      go Running q h = stopped (leaves x) refl q (ap (λ (r : Option Cause). unless r (sends (bytes_of s o) (next_state s o))) (allowed_err (refusal s o) x h))
      go Closed q h = over AfterClose refl (in_closed composer layer_fault m s ph n o q) cc
      go (Shut y) q h = over AfterShut refl (in_shut composer layer_fault m s ph n o y q) cc

  module _ (run : ph ≡ Running) (none : refusal s o ≡ None) (m' : Sink) (r : m' ≡ sent m (down (bytes_of s o) (closes o))) where
    on : moves s o ≡ sends (bytes_of s o) (next_state s o)
    on = ap (λ (x : Option Cause). unless x (sends (bytes_of s o) (next_state s o))) none

    abbrev fault : Option Fault
    fault = raised (sent_fault m (down (bytes_of s o) (closes o)))

    -- accepted, also below
    pub was_accepted : fault ≡ None → (s' : Composing) → s' ≡ next_state s o → (ph' : Phase Fault) → ph' ≡ gone (closes o) → (n' : ℕ) → n' ≡ place_on (counts o) n → Did here (layer_means composer m' s' ph' n') o None
    was_accepted h s' q ph' p n' t =
        let d = in_ok composer layer_fault m s ph n o run (bytes_of s o) (next_state s o) on m' r composer_stirs h ph' p n' t in
        record { tells = d.tells; leads = ap (λ (x : Composing). layer_means composer m' x ph' n') q ∙ d.leads }

    -- refused below
    pub was_stopped : (f : Fault) → fault ≡ Some f → (u : Composing) → Did here (layer_means composer m' u (Shut f) n) o (Some f)
    was_stopped f h u = in_err composer layer_fault m s ph n o run (bytes_of s o) (next_state s o) on m' r f h u

-- giving up, with the right number
pub up_cause : {F : Type 0} (ph : Phase F) (i n : ℕ) (p : Option Within) (x : Cause) → x ≡ unwrap_or (result_err (allowed_in ph (end_refusal i n p))) GivenUp → allowed_in ph (give_up_refusal i n p) ≡ Err x
up_cause Closed i n p x q = ap Err (sym q)
up_cause (Shut f) i n p x q = ap Err (sym q)
up_cause Running i n None x q = ap Err (sym q)
up_cause Running i n (Some p) x q = go (not (eqb i n)) q
  where
    go : (b : Bool) → x ≡ unwrap_or (result_err (allowed (refuse_if b WrongNumber None))) GivenUp → allowed (refuse_if b WrongNumber (Some GivenUp)) ≡ Err x
    go true h = ap Err (sym h)
    go false h = ap Err (sym h)

pub same_place : {S : Type 0} (d e : Composer S) → d ≡ e → d.place ≡ e.place
same_place d e q = ap (λ (x : Composer _). x.place) q

-- an answer from below that is no refusal leaves the composer as it is
pub passed : {S T : Type 0} (d e : Composer S) (y : S) (p : Paragraph) (r : Result T LayerFault) (x : T) → r ≡ Ok x → e ≡ record { below = y; opened = d.opened; paragraph = p; phase = answered_phase r d.phase; place = d.place } → e ≡ record { below = y; opened = d.opened; paragraph = p; phase = d.phase; place = d.place }
passed {S} {T} d e y p r x is q = q ∙ ap (λ (z : Result T LayerFault). record { below = y; opened = d.opened; paragraph = p; phase = answered_phase z d.phase; place = d.place }) is

-- what an order came to, in the composer's code
pub record Came {S : Type 0} (below : S → Sink) (memory : S → List ℕ) (c d : Composer S) (o : Order) (v : Option Fault) : Type 0 where
  pub tells : verdict (means_of below c) o ≡ v
  pub leads : means_of below d ≡ after (means_of below c) o
  pub kept : Keeps (below c.below).foot (below d.below).foot (memory c.below) (memory d.below)

-- and what it answered
pub record Told {S : Type 0} (below : S → Sink) (memory : S → List ℕ) (c d : Composer S) (o : Order) (r : Result ℕ Fault) : Type 0 where
  pub answered : r ≡ answered (means_of below c) o
  pub changed : means_of below d ≡ after (means_of below c) o
  pub kept : Keeps (below c.below).foot (below d.below).foot (memory c.below) (memory d.below)

-- an order that was checked, and may be taken
pub record Goes {S : Type 0} (c d : Composer S) (o : Order) : Type 0 where
  pub same : d ≡ c
  pub run : d.phase ≡ Running
  pub none : refusal (state_of d) o ≡ None

module _ {S : Type 0} (below : S → Sink) (memory : S → List ℕ) (o : Order) where
  pub came_refused : (c d : Composer S) (x : Cause) → allowed_in c.phase (refusal (state_of c) o) ≡ Err x → (f : LayerFault) → Refuses c d x f → Came below memory c d o (Some (layer_fault f))
  came_refused c d x e f r =
      let k = was_refused (below c.below) (state_of c) c.phase c.place o x e f r.fault in
      record {
        tells = k.tells;
        leads = ap (means_of below) r.left ∙ k.leads;
        kept = subst (λ (y : Composer S). Keeps (below c.below).foot (below y.below).foot (memory c.below) (memory y.below)) (sym r.left) (keeps_same (below c.below).foot (memory c.below));
      }

  pub came_by : (f : Composer S → Composer S) (c d e : Composer S) (v : Option Fault) → d ≡ e → Came below memory c (f e) o v → Came below memory c (f d) o v
  came_by f c d e v q k = subst (λ (x : Composer S). Came below memory c (f x) o v) (sym q) k

  module _ (c d : Composer S) where
    pub came_checked : (may : Result (Unit {0}) Cause) → may ≡ allowed_in c.phase (refusal (state_of c) o) → (f : LayerFault) → Checks c d may (Err f) → Came below memory c d o (Some (layer_fault f))
    came_checked (Ok x) e f k = let z : ◌≡◌ {A = Result (Unit {0}) LayerFault} (Err f) (Ok tt) = k.0 in cc
    came_checked (Err x) e f k = came_refused c d x (sym e) f k

    pub goes_on : (may : Result (Unit {0}) Cause) → may ≡ allowed_in c.phase (refusal (state_of c) o) → (x : Unit {0}) → Checks c d may (Ok x) → Goes c d o
    goes_on (Ok y) e x k =
        let on = went_on c.phase (refusal (state_of c) o) (sym e) in
        record { same = k.1; run = ap (λ (z : Composer S). z.phase) k.1 ∙ on.0; none = ap (λ (z : Composer S). refusal (state_of z) o) k.1 ∙ on.1 }
    goes_on (Err y) e x k = absurd k

    module _ (g : Goes c d o) where
      abbrev handed : Sink
      handed = sent (below d.below) (down (bytes_of (state_of d) o) (closes o))

      abbrev refusal_below : Option Fault
      refusal_below = raised (sent_fault (below d.below) (down (bytes_of (state_of d) o) (closes o)))

      whole : (e : Composer S) (v : Option Fault) → Did (means_of below d) (means_of below e) o v → Behind (below e.below).foot (memory d.below) (memory e.below) → Came below memory c e o v
      whole e v k b =
          subst (λ (x : Composer S). Came below memory x e o v) g.same
          (record { tells = k.tells; leads = k.leads; kept = kept (means_of below d) (means_of below e) o (memory d.below) (memory e.below) k.leads b })

      pub came_accepted : refusal_below ≡ None → (e : Composer S) → below e.below ≡ handed → state_of e ≡ next_state (state_of d) o → phased layer_fault e.phase ≡ gone (closes o) → e.place ≡ place_on (counts o) d.place → Behind (below e.below).foot (memory d.below) (memory e.below) → Came below memory c e o None
      came_accepted h e r s p n b =
          whole e None (was_accepted (below d.below) (state_of d) d.phase d.place o g.run g.none (below e.below) r h (state_of e) s (phased layer_fault e.phase) p e.place n) b

      -- a refusal from below shut the composer
      pub came_stopped : {T : Type 0} (y : S) (k : ℕ) (p : Paragraph) (r : Result T LayerFault) (f : LayerFault) → r ≡ Err f → refusal_below ≡ Some (layer_fault f) → below y ≡ handed → Behind (below y).foot (memory d.below) (memory y) → (e : Composer S) →
          e ≡ record { below = y; opened = k; paragraph = p; phase = answered_phase r d.phase; place = d.place } → Came below memory c e o (Some (layer_fault f))
      came_stopped {T} y k p r f is h m b e q =
          let shut : Composer S = record { below = y; opened = k; paragraph = p; phase = Shut f; place = d.place } in
          let at : e ≡ shut = q ∙ ap (λ (z : Result T LayerFault). record { below = y; opened = k; paragraph = p; phase = answered_phase z d.phase; place = d.place }) is in
          subst (λ (x : Composer S). Came below memory c x o (Some (layer_fault f))) (sym at)
          (whole shut (Some (layer_fault f)) (was_stopped (below d.below) (state_of d) d.phase d.place o g.run g.none (below y) m (layer_fault f) h (state_of shut)) b)

      -- what an accepted order answers
      pub came_value : (e : Composer S) → Came below memory c e o None → (v : ℕ) → v ≡ tells (state_of d) o → cond (closes o) (shown (below e.below).foot) v ≡ value (means_of below c) o
      came_value e k v t =
          let leads = subst (λ (x : Composer S). means_of below e ≡ after (means_of below x) o) (sym g.same) k.leads in
          ok_value composer layer_fault (below d.below) (state_of d) d.phase d.place o g.run (means_of below e) leads (closes o) refl v t
          ∙ ap (λ (x : Composer S). value (means_of below x) o) g.same

      -- an answer from below that is passed on
      pub came_told : (y : S) (p : Paragraph) (r : Result ℕ LayerFault) → told layer_fault (done r) ≡ answer tt refusal_below → IfOk r (λ n. n ≡ tells (state_of d) o) → below y ≡ handed → Behind (below y).foot (memory d.below) (memory y) →
          closes o ≡ false → d.place ≡ place_on (counts o) d.place → record { width = p.held.margins.width; opened = d.opened; paragraph = within_of p } ≡ next_state (state_of d) o → (e : Composer S) →
          e ≡ record { below = y; opened = d.opened; paragraph = p; phase = answered_phase r d.phase; place = d.place } → Told below memory c e o (told layer_fault r)
      came_told y p (Err f) h t m b u n s e q =
          let k = came_stopped {T = ℕ} y d.opened p (Err f) f refl (answer_err tt _ _ h) m b e q in
          record { answered = sym (ap (answer _) k.tells); changed = k.leads; kept = k.kept }
      came_told y p (Ok v) h t m b u n s e q =
          let goes : phased layer_fault d.phase ≡ gone (closes o) = ap (phased layer_fault) g.run ∙ ap gone (sym u) in
          let on = came_accepted (answer_ok tt tt _ h) (record { below = y; opened = d.opened; paragraph = p; phase = d.phase; place = d.place }) m s goes n b in
          let k = subst (λ (x : Composer S). Came below memory c x o None) (sym q) on in
          let tells = ap (λ (x : Bool). cond x (shown (below e.below).foot) v) (sym u) ∙ came_value e k v t in
          record { answered = ap₂ answer tells (sym k.tells); changed = k.leads; kept = k.kept }
