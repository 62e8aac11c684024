-- Paragraphs handed over one by one.
use Rattle.std.proofs.Common.{◌≡◌, ℕ, ◌+◌, ◌-◌, ◌^◌, min, List, [], ◌∷◌, ◌++◌, length, drop, Some, None, Ok, Err, sum_by, sym, refl, ap, ◌∙◌, subst, append_assoc, arith}
use Rattle.std.proofs.lemmas.List.{length_push, drop-drop}
use Rattle.std.proofs.lemmas.List.Sums.{sum_by_push}
use Rattle.fault.specs.declared.fault.Fault.{Fault}
use Rattle.taker.specs.Mail.{Paragraph}
use Rattle.taker.specs.Paragraph.{Taker}
use Rattle.history.specs.History.{Step}
use Rattle.plain_text.specs.Grows.{Grows, GrowsBy}
use Rattle.plain_text.specs.Handing.{Ended, whole, wholes, HandedOne, HandedAll}
use Rattle.plain_text.proofs.Growing.{grows_on}

-- one accepted paragraph more
wholes_more : (ps : List Paragraph) (es : List Ended) (p : Paragraph) (others : List Paragraph) (e : Ended) → drop (length es) ps ≡ p ∷ others → wholes ps (es ++ e ∷ []) ≡ whole p e ++ wholes ps es
wholes_more [] [] p others e h = cc
wholes_more [] (x ∷ es) p others e h = cc
wholes_more (q ∷ ps) [] p others e h = let is : q ≡ p = cc in ap (λ (r : Paragraph). whole r e) is
wholes_more (q ∷ ps) (x ∷ es) p others e h = ap (λ (l : List Step). l ++ whole q x) (wholes_more ps es p others e h) ∙ append_assoc (whole p e) (wholes ps es) (whole q x)

-- some paragraphs were accepted, and these are left
pub record Through {E : Type 0} (m n : Taker E) (ps left : List Paragraph) (paragraphs lines : ℕ) : Type 0 where
  pub ended : List Ended
  pub count : paragraphs ≡ length ended
  pub sum : lines ≡ min (sum_by (λ e. e.lines) ended) (2 ^ 64 - 1)
  pub behind : left ≡ drop (length ended) ps
  pub room : paragraphs + length left ≡ length ps
  pub grows : Grows m n (wholes ps ended)

module _ {E : Type 0} {start m : Taker E} {ps left : List Paragraph} {paragraphs lines : ℕ} {p : Paragraph} {others : List Paragraph} (t : Through start m ps left paragraphs lines) (first : left ≡ p ∷ others) where
  there : drop (length t.ended) ps ≡ p ∷ others
  there = sym t.behind ∙ first

  one_behind : others ≡ drop (length t.ended + 1) ps
  one_behind = ap (drop 1) (sym there) ∙ drop-drop 1 (length t.ended) ps

  pub through_more : (o : Taker E) (n total : ℕ) → GrowsBy m o (HandedOne p (Ok n)) → total ≡ min (lines + n) (2 ^ 64 - 1) → Through start o ps others (paragraphs + 1) total
  through_more o n total g is =
      let e : Ended = record { number = g.so.0; lines = n } in
      let k : length (t.ended ++ e ∷ []) ≡ length t.ended + 1 = length_push t.ended e in
      let sum : sum_by (λ x. x.lines) (t.ended ++ e ∷ []) ≡ sum_by (λ x. x.lines) t.ended + n = sum_by_push (λ (x : Ended). x.lines) t.ended e in
      record {
        ended = t.ended ++ e ∷ [];
        count = omega arith;
        sum = is ∙ (omega (arith, t.sum));
        behind = one_behind ∙ ap (λ (x : ℕ). drop x ps) (sym k);
        room = omega (arith, t.room, ap length first);
        grows = subst (Grows start o) (ap (λ (l : List Step). l ++ wholes ps t.ended) g.so.1 ∙ sym (wholes_more ps t.ended p others e there)) (grows_on start m o (wholes ps t.ended) g.steps t.grows g.grows);
      }

  pub through_refused : (o : Taker E) (f : Fault) → GrowsBy m o (HandedOne p (Err f)) → GrowsBy start o (HandedAll ps paragraphs lines (Some (paragraphs + 1, f)))
  through_refused o f g = record {
    steps = g.steps ++ wholes ps t.ended;
    so = record {
      ended = t.ended;
      count = t.count;
      sum = t.sum;
      so = record {
        place = omega arith;
        paragraph = p;
        others = others;
        there = there;
        last = g.steps;
        refused = g.so;
        steps = refl;
      };
    };
    grows = grows_on start m o (wholes ps t.ended) g.steps t.grows g.grows;
  }

pub through_all : {E : Type 0} {m n : Taker E} {ps left : List Paragraph} {paragraphs lines : ℕ} → Through m n ps left paragraphs lines → left ≡ [] → GrowsBy m n (HandedAll ps paragraphs lines None)
through_all {E} {m} {n} {ps} {left} {paragraphs} {lines} t e = record {
  steps = wholes ps t.ended;
  so = record {
    ended = t.ended;
    count = t.count;
    sum = t.sum;
    so = (omega (arith, t.count, t.room, ap length e), refl);
  };
  grows = t.grows;
}
