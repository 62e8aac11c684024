use Rattle.std.proofs.Common.{◌≡◌, ℕ, length, drop, Vec, sym, ap, ◌∙◌, subst}
use Rattle.std.specs.declared.alloc.Global.{Global}
use Rattle.fault.specs.Answers.{told, via}
use Rattle.fault.specs.Kinds.{layer_fault}
use Rattle.sink.specs.Sink.{Sink}
use Rattle.sink.specs.Same.{Matched}
use Rattle.ends.specs.declared.buffer.Buffer.{Buffer}
use Rattle.ends.specs.declared.end.End.{End}
use Rattle.ends.specs.Buffers.{taken}
use Rattle.dot.specs.declared.dot.Dot.{Dot}
use Rattle.composer.specs.Composers.{means_of}
use Rattle.reader.specs.Reading.{Reading}
use Rattle.reader.specs.Readers.{reading_of}
use Rattle.conversation.specs.Promise.{ReadsBack}
use Rattle.exchange.specs.Exchanged.{dotted, exchange_orders, steps_in, Written, Exchanged, HandedBack}
use Rattle.exchange.specs.Piles.{dot_means, undo_means, undotted}
use Rattle.exchange.proofs.Matching.{matched}
use Rattle.exchange.proofs.Exchanging.{written, read_from, handed, exchanged}
use Rattle.exchange.proofs.exchange.exchange.Goals as goal

pub returns : goal.returns
returns g c =
    let w = c.args.width in
    let a = c.new_writer-first.result in
    let b = c.new_writer-second.result in
    let first = c.write-sent.new.taker in
    let second = c.write-sent_again.new.taker in
    let t = means_of dot_means first in
    let u = means_of dot_means second in
    let m = dot_means a.below in
    let l = dot_means b.below in
    let is_m = c.new_writer-first.ensures.below in
    let is_l = c.new_writer-second.ensures.below in
    let os = exchange_orders c.args.mail.text.now c.args.mail.records.now in
    let v = via layer_fault c.write-sent.result.refused in
    let v' = via layer_fault c.write-sent_again.result.refused in
    let x = told layer_fault c.write-sent.result.finish in
    let y = told layer_fault c.write-sent_again.result.finish in
    let p = written w m (means_of dot_means a) t os v x c.new_writer-first.ensures.begun c.write-sent.ensures.wrote in
    let q = written w l (means_of dot_means b) u os v' y c.new_writer-second.ensures.begun c.write-sent_again.ensures.wrote in
    let mt = g.T.ParagraphTaker.means in
    let mw = g.W.ParagraphTaker.means in
    let one = reading_of undo_means mt c.read_mail-read.new.reader in
    let other = reading_of undo_means mw c.read_mail-read_again.new.reader in
    let wire = c.bytes-wire.result.now in
    let end : c.below-2.result.now ≡ first.below.below = c.below-2.ensures ∙ ap (λ (s : Dot (End Buffer)). s.below) c.below.ensures in
    let at : wire ≡ t.foot = c.bytes-wire.ensures ∙ ap (λ (k : End Buffer). taken k.holder) end in
    let r₀ = c.reader_of-reader.result in
    let s₀ = c.reader_of-again.result in
    let z = told layer_fault c.read_mail-read.result.finish in
    let z' = told layer_fault c.read_mail-read_again.result.finish in
    let read = read_from one wire t.foot _ z c.reader_of-reader.ensures.reads at c.read_mail-read.ensures.read in
    let read_again = read_from other wire t.foot _ z' c.reader_of-again.ensures.reads at c.read_mail-read_again.ensures.read in
    let ur : undo_means r₀.undo ≡ undotted = ap (λ (k : Reading g.T.ParagraphTaker.Item). k.undo) c.reader_of-reader.ensures.reads in
    let us : undo_means s₀.undo ≡ undotted = ap (λ (k : Reading g.W.ParagraphTaker.Item). k.undo) c.reader_of-again.ensures.reads in
    let One = HandedBack (mt c.args.taker) (g.T.ParagraphTaker.lawful c.args.taker) z one in
    let Other = HandedBack (mw c.args.other) (g.W.ParagraphTaker.lawful c.args.other) z' other in
    record {
      sent = subst (λ (k : Sink). Written w k t os v x) is_m p;
      sent_again = subst (λ (k : Sink). Written w k u os v' y) is_l q;
      memory = c.write-sent.ensures.kept.behind ∙ ap (λ (k : Vec ℕ Global). drop (length t.foot) k.items) c.new_writer-first.ensures.memory;
      twin = c.write-sent_again.ensures.kept.behind ∙ ap (λ (k : Vec ℕ Global). drop (length u.foot) k.items) c.new_writer-second.ensures.memory;
      read = read;
      read_again = read_again;
      kept = subst (λ (k : g.row.T.Denot). g.T.ParagraphTaker.keeps k c.read_mail-read.new.reader.delivery.taker) c.reader_of-reader.ensures.taker c.read_mail-read.ensures.kept;
      kept_again = subst (λ (k : g.row.W.Denot). g.W.ParagraphTaker.keeps k c.read_mail-read_again.new.reader.delivery.taker) c.reader_of-again.ensures.taker c.read_mail-read_again.ensures.kept;
      promised = λ e.
          let same : Matched m l = subst (λ (k : Sink). Matched m k) (sym is_l) (subst (λ (k : Sink). Matched k (dotted c.args.twin)) (sym is_m) (matched c.args.memory c.args.twin e)) in
          let holds = c.promise.ensures a.below b.below w (steps_in p) (steps_in q) same p.reached q.reached in
          let all = exchanged w m l os t u v v' x y p q
          (λ undo bs ps. ReadsBack undo_means mt g.T.ParagraphTaker.lawful undo bs ps one) (λ undo bs ps. ReadsBack undo_means mw g.W.ParagraphTaker.lawful undo bs ps other) One Other holds
          (λ ps back. handed undo_means mt g.T.ParagraphTaker.lawful undotted t.foot ps one _ z r₀.undo c.args.taker back ur read)
          (λ ps back. handed undo_means mw g.W.ParagraphTaker.lawful undotted t.foot ps other _ z' s₀.undo c.args.other back us read_again) in
          subst (λ (k : Sink). Exchanged w (dotted c.args.memory) k os t u v v' x y One Other) is_l (subst (λ (k : Sink). Exchanged w k l os t u v v' x y One Other) is_m all);
    }
