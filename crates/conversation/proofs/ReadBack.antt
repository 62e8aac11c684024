-- What the end took of a finished run is read back as its settled paragraphs, in whatever chunks.
use Rattle.std.proofs.Common.{◌≡◌, ℕ, List, [], ◌∷◌, ◌++◌, length, None, Ok, Option, Result, sym, ap, ◌∙◌, ap₂}
use Rattle.fault.specs.declared.fault.Fault.{Fault}
use Rattle.fault.specs.Answers.{answer, raised}
use Rattle.orders.specs.declared.phase.Phase.TheVariants.{Closed}
use Rattle.orders.specs.Steps.{after, verdict, value, shown}
use Rattle.orders.specs.Lists.{sent_fault}
use Rattle.undo.specs.Undoing.{Undoing, Undone, undone, whole}
use Rattle.taker.specs.Paragraph.{Order, Taker}
use Rattle.taker.specs.Paragraph.{finishes as finish_order}
use Rattle.taker.specs.Law.{Numbered}
use Rattle.taker.specs.Mail.{Paragraph}
use Rattle.reading.specs.Events.{told}
use Rattle.reading.specs.Machine.{start}
use Rattle.reading.specs.Runs.{run}
use Rattle.history.specs.Settled.{handed_on}
use Rattle.reader.specs.Handing.{hand, orders_for}
use Rattle.reader.specs.Reading.{Reading, Read, new_reading, bytes, with_taker, settled, if_stopped, finish_read, finish_answered}
use Rattle.conversation.specs.Reads.{StepRead, finished, stopped_orders, chunk_orders, finish_orders, Reads, finishes, OnlyFeeds, fed_bytes}
use Rattle.conversation.specs.Promise.{ReadBack}
use Rattle.conversation.proofs.HandingOn.{takes}
use Rattle.conversation.proofs.ReadRuns.{at, ran}
use Rattle.conversation.proofs.Chunks.{cut}

module _ {E : Type 0} (u : Undoing) (t : Taker E) (n : ℕ) (numbered : Numbered t n) (foot cs : List ℕ) (ps : List Paragraph)
    (back : undone u foot ≡ whole cs (length foot)) (read : run start cs ≡ record { handed = told ps; left = Ok start }) (accepts : sent_fault t (handed_on n ps) ≡ None) where
  -- a reader at a line beginning whose pile may stop and whose taker may finish
  module _ (v : Undoing) (y : Taker E) (k p : ℕ) (stop : v.stop [] ≡ None) (ok : verdict y finish_order ≡ None) where
    abbrev r : Reading E
    r = at v start y k p

    finished_as : Option Fault → Read E
    finished_as v = settled Closed (record { left = with_taker r (record { taker = after y finish_order; number = k; fault = None }); fault = raised v })

    finish_is : finish_read r ≡ finished_as None
    unfolding finished_as
    finish_is = ap (λ (x : Option Fault). settled Closed (if_stopped x r (hand y k []))) stop ∙ ap finished_as ok

    pub answer_is : finish_answered r ≡ Ok (shown (finish_read r).left.taker.foot)
    unfolding finished_as
    answer_is =
        ap (λ (x : Read E). answer (value y finish_order) x.fault) finish_is
        ∙ ap (λ (x : Read E). Ok (shown x.left.taker.foot)) (sym finish_is)

    pub taker_is : (finish_read r).left.taker ≡ after y finish_order
    unfolding finished_as
    taker_is = ap (λ (x : Read E). x.left.taker) finish_is

    pub orders_is : finish_orders r ≡ finish_order ∷ []
    orders_is = ap (λ (x : Option Fault). stopped_orders r x []) stop

  pub read_back : (g : List StepRead) (z : Result ℕ Fault) (os : List Order) (s : Reading E) → OnlyFeeds g → fed_bytes g ≡ foot → Reads (new_reading u t) (finished z ∷ g) os s → ReadBack t n ps g z os s
  read_back g z os s only is (finishes {os = os'} {r = r₀} p _ a e) =
      let k = takes t n 0 ps numbered accepts in
      let given : (undone u foot).given ≡ cs = ap (λ (x : Undone). x.given) back in
      let all = ran foot u start t 0 0 (told ps) start (ap (λ (x : Undone). x.refused) back) (ap (run start) given ∙ read) k.fault in
      let c = cut (new_reading u t) g os' r₀ only p (ap (λ (l : List ℕ). (bytes (new_reading u t) l).fault) is ∙ ap (λ (x : Read E). x.fault) all.read) in
      let y = (hand t 0 (told ps)).taker in
      let j = (hand t 0 (told ps)).number in
      let there : r₀ ≡ at all.undo start y j all.place = c.left ∙ ap (λ (l : List ℕ). (bytes (new_reading u t) l).left) is ∙ ap (λ (x : Read E). x.left) all.read in
      let stop : all.undo.stop [] ≡ None = all.stop ∙ ap (λ (x : Undone). x.stop) back in
      let taker : s.taker ≡ after y finish_order = ap (λ (x : Reading E). x.taker) e ∙ ap (λ (x : Reading E). (finish_read x).left.taker) there ∙ taker_is all.undo y j all.place stop k.finish in
      record {
        taken = c.taken;
        finish =
            a
            ∙ ap finish_answered there
            ∙ answer_is all.undo y j all.place stop k.finish
            ∙ ap (λ (x : Reading E). Ok (shown (finish_read x).left.taker.foot)) (sym there)
            ∙ ap (λ (x : Reading E). Ok (shown x.taker.foot)) (sym e);
        handed =
            ap₂ (λ (x : List Order) (q : Reading E). x ++ finish_orders q) (c.orders ∙ ap (chunk_orders (new_reading u t)) is ∙ all.orders) there
            ∙ ap (λ (x : List Order). orders_for t 0 (told ps) ++ x) (orders_is all.undo y j all.place stop k.finish)
            ∙ k.orders;
        taker = taker ∙ k.taker;
      }
