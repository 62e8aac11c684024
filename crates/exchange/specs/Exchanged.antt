-- A mail exchanged: two composing runs and two reading runs, and what the promise says of them.
use Rattle.std.specs.Prelude.{◌≡◌, ℕ, true, List, [], ◌∷◌, ◌++◌, None, Option, Result, Vec}
use Rattle.std.specs.declared.alloc.Global.{Global}
use Rattle.fault.specs.declared.fault.Fault.{Fault}
use Rattle.orders.specs.declared.phase.Phase.TheVariants.{Running}
use Rattle.orders.specs.Lists.{sent_fault}
use Rattle.sink.specs.Sink.{Sink}
use Rattle.layer.specs.Layer.{layer_means}
use Rattle.ends.specs.Ends.{memory_means}
use Rattle.dot.specs.declared.line.LineState.TheVariants.{Start}
use Rattle.dot.specs.Dot.{dot}
use Rattle.taker.specs.Paragraph.{Order, ends, Taker}
use Rattle.taker.specs.Law.{Lawful}
use Rattle.taker.specs.Mail.{Paragraph}
use Rattle.history.specs.History.{to_end, to_finish, Step, asked, Reached}
use Rattle.history.specs.Orders.{orders}
use Rattle.history.specs.Settled.{settled_paragraphs, has_finished, handed_on}
use Rattle.composer.specs.Composers.{new_means}
use Rattle.reader.specs.Reading.{Reading}
use Rattle.conversation.specs.Reads.{StepRead}
use Rattle.conversation.specs.Promise.{Agree, ReadBack}
use Rattle.store.specs.declared.record.Record.{Record}
use Rattle.exchange.specs.Mail.{mail_orders}
use Rattle.exchange.specs.Given.{first_refusal}

-- a new dot stage over a new memory end
abbrev pub dotted : Vec ℕ Global → Sink
dotted v = layer_means dot (memory_means v 0 Running) Start Running 0

-- an end where nothing is open, which is refused and leaves all as it was, and then a mail
abbrev pub exchange_orders : List ℕ → List Record → List Order
exchange_orders text rs = ends 0 ∷ mail_orders text rs

-- such an end, which was answered e, the steps of a mail's paragraphs, and a finish that was answered z (the newest first)
abbrev pub exchange_steps : Result ℕ Fault → List Step → Result ℕ Fault → List Step
exchange_steps e mail z = asked to_finish z ∷ (mail ++ asked (to_end 0) e ∷ [])

-- a history grows by such steps, with these orders; v is the first refusal among the paragraphs
pub record Wrote {E : Type 0} (m n : Taker E) (os : List Order) (v : Option Fault) (z : Result ℕ Fault) : Type 0 where
  pub ended : Result ℕ Fault
  pub mail : List Step
  pub grows : (start : Taker E) (h : List Step) → Reached start h m → Reached start (exchange_steps ended mail z ++ h) n
  pub are : orders (exchange_steps ended mail z) ≡ os
  pub first : first_refusal mail ≡ v

-- a run of a new composer of width w over m, by such steps with these orders, in whatever pieces
pub record Written (w : ℕ) (m : Sink) (t : Taker ℕ) (os : List Order) (v : Option Fault) (z : Result ℕ Fault) : Type 0 where
  pub ended : Result ℕ Fault
  pub mail : List Step
  pub reached : Reached (new_means w m) (exchange_steps ended mail z) t
  pub are : orders (exchange_steps ended mail z) ≡ os
  pub first : first_refusal mail ≡ v

abbrev pub steps_in : {w : ℕ} {m : Sink} {t : Taker ℕ} {os : List Order} {v : Option Fault} {z : Result ℕ Fault} → Written w m t os v z → List Step
steps_in {z = z} p = exchange_steps p.ended p.mail z

-- what is read back by a reader that means r, over a taker that meant t and had opened n paragraphs
pub record Back {E : Type 0} (t : Taker E) (n : ℕ) (ps : List Paragraph) (z : Result ℕ Fault) (r : Reading E) : Type 0 where
  pub steps : List StepRead
  pub handed : List Order
  pub whole : ReadBack t n ps steps z handed r

-- both runs were given the same orders, so they agree; and where the first has finished, a taker that accepts its settled
-- paragraphs is handed them, whatever the chunks
pub record Exchanged (w : ℕ) (m l : Sink) (os : List Order) (t u : Taker ℕ) (v v' : Option Fault) (x y : Result ℕ Fault) (One Other : List Paragraph → Type 0) : Type 0 where
  pub one : Written w m t os v x
  pub other : Written w l u os v' y
  pub agree : Agree (steps_in one) (steps_in other) t u
  pub back : has_finished (steps_in one) ≡ true → One (settled_paragraphs (steps_in one))
  pub back_too : has_finished (steps_in one) ≡ true → Other (settled_paragraphs (steps_in one))

-- if the taker accepts them
abbrev pub HandedBack : {E : Type 0} → (t : Taker E) → Lawful t → Result ℕ Fault → Reading E → List Paragraph → Type 0
HandedBack t law z r ps = sent_fault t (handed_on law.before ps) ≡ None → Back t law.before ps z r
