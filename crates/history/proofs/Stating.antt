-- A history leads where the rules lead for its orders, wherever its chunks were cut.
use Rattle.std.proofs.Common.{◌≡◌, ℕ, suc, ◌+◌, Bool, false, cond, ◌⊎◌, List, [], ◌∷◌, ◌++◌, take, Some, None, Option, Result, sym, refl, ap, ◌∙◌, subst, ap₂, inl, inr, arith}
use Rattle.fault.specs.declared.fault.Fault.{Fault}
use Rattle.fault.specs.declared.cause.Cause.TheVariants.{AfterShut}
use Rattle.fault.specs.Faults.{own}
use Rattle.orders.specs.Steps.{after, verdict, answered, reached, settled, mild, stays, shuts}
use Rattle.orders.specs.Lists.{sent, sent_on, count, count_on}
use Rattle.orders.proofs.Refusing.{refused, refused_stays}
use Rattle.taker.specs.Paragraph.{Order, texts, Taker, text_orders}
use Rattle.taker.specs.Law.{Lawful, LawfulThrough, Deaf, Hearing}
use Rattle.history.specs.History.{Ask, to_open, to_end, to_give_up, to_finish, order, Step, asked, fed, Reached, begun, asks, feeds}
use Rattle.history.specs.Orders.{Reply, orders}
use Rattle.history.specs.Stated.{offered, reply_on, stated, tally, counted, AsStated}

-- an order that is no text byte
reply_is : (a : Ask) (r : Result ℕ Fault) (l : List Reply) → reply_on (order a) r l ≡ record { ask = a; reply = r } ∷ l
reply_is (to_open d) r l = refl
reply_is (to_end n) r l = refl
reply_is (to_give_up n) r l = refl
reply_is to_finish r l = refl

tally_is : (a : Ask) (v : Option Fault) (n : ℕ) → tally (order a) v n ≡ n
tally_is (to_open d) v n = refl
tally_is (to_end k) v n = refl
tally_is (to_give_up k) v n = refl
tally_is to_finish v n = refl

module _ {E : Type 0} where
  pub offered_append : (m : Taker E) (p q : List Order) → offered m (p ++ q) ≡ offered (offered m p) q
  offered_append m [] q = refl
  offered_append m (o ∷ p) q = offered_append (after m o) p q

  pub stated_append : (m : Taker E) (p q : List Order) (l : List Reply) → stated m (p ++ q) l ≡ stated (offered m p) q (stated m p l)
  stated_append m [] q l = refl
  stated_append m (o ∷ p) q l = stated_append (after m o) p q (reply_on o (answered m o) l)

  pub counted_append : (m : Taker E) (p q : List Order) (n : ℕ) → counted m (p ++ q) n ≡ counted (offered m p) q (counted m p n)
  counted_append m [] q n = refl
  counted_append m (o ∷ p) q n = counted_append (after m o) p q (tally o (verdict m o) n)

  -- text bytes are not replied to
  pub stated_texts : (m : Taker E) (bs : List ℕ) (l : List Reply) → stated m (text_orders bs) l ≡ l
  stated_texts m [] l = refl
  stated_texts m (b ∷ bs) l = stated_texts (after m (texts b)) bs l

  -- bytes that change nothing and are not accepted
  abbrev Idle : Taker E → Type 0
  Idle m = (b : ℕ) → (f : Fault) × ((verdict m (texts b) ≡ Some f) × (m ≡ after m (texts b)))

  idle_offered : (m : Taker E) → Idle m → (bs : List ℕ) → offered m (text_orders bs) ≡ m
  idle_offered m d [] = refl
  idle_offered m d (b ∷ bs) = ap (λ (t : Taker E). offered t (text_orders bs)) (sym (d b).1.1) ∙ idle_offered m d bs

  idle_counted : (m : Taker E) → Idle m → (bs : List ℕ) (n : ℕ) → counted m (text_orders bs) n ≡ n
  idle_counted m d [] n = refl
  idle_counted m d (b ∷ bs) n =
      ap (λ (v : Option Fault). counted (after m (texts b)) (text_orders bs) (tally (texts b) v n)) (d b).1.0
      ∙ ap (λ (t : Taker E). counted t (text_orders bs) n) (sym (d b).1.1)
      ∙ idle_counted m d bs n

  -- a shut taker is idle
  shut_idle : (m : Taker E) (f : Fault) (foot : List E) → Idle (shuts m f foot)
  shut_idle m f foot b =
      let g = own AfterShut m.fixed.layer m.place in
      (g, (refused (shuts m f foot) (texts b) g refl, refused_stays (shuts m f foot) (texts b) g refl refl))

  hard_idle : (m : Taker E) (o : Order) (f : Fault) → verdict m o ≡ Some f → mild f ≡ false → Idle (after m o)
  unfolding after verdict
  hard_idle m o f v h =
      subst Idle (sym (ap (λ (x : Option Fault). settled m o x (reached m o).list) v ∙ ap (λ (x : Bool). cond x (stays m (reached m o).list) (shuts m f (reached m o).list)) h)) (shut_idle m f (reached m o).list)

  -- a chunk, as the rules state it byte by byte
  pub record FedAsStated (m : Taker E) (bs : List ℕ) : Type 0 where
    pub leads : sent m (text_orders bs) ≡ offered m (text_orders bs)
    pub bytes : (n : ℕ) → n + count m (text_orders bs) ≡ counted m (text_orders bs) n

  module _ (m : Taker E) (b : ℕ) (bs : List ℕ) where
    abbrev m' : Taker E
    m' = after m (texts b)

    refused_so : (f : Fault) → verdict m (texts b) ≡ Some f → Idle m' → FedAsStated m (b ∷ bs)
    refused_so f v d = record {
      leads = ap (λ (x : Option Fault). sent_on x m' (sent m' (text_orders bs))) v ∙ sym (idle_offered m' d bs);
      bytes = λ n.
          let c = ap (λ (x : Option Fault). count_on x (count m' (text_orders bs))) v in
          let t = ap (λ (x : Option Fault). counted m' (text_orders bs) (tally (texts b) x n)) v ∙ idle_counted m' d bs n in
          omega arith;
    }

    taken_so : verdict m (texts b) ≡ None → FedAsStated m' bs → FedAsStated m (b ∷ bs)
    taken_so v r = record {
      leads = ap (λ (x : Option Fault). sent_on x m' (sent m' (text_orders bs))) v ∙ r.leads;
      bytes = λ n.
          let c = ap (λ (x : Option Fault). count_on x (count m' (text_orders bs))) v in
          let t = ap (λ (x : Option Fault). counted m' (text_orders bs) (tally (texts b) x n)) v in
          let s = r.bytes (n + 1) in
          omega arith;
    }

    one_so : Deaf m ⊎ Hearing m → (verdict m (texts b) ≡ None → FedAsStated m' bs) → FedAsStated m (b ∷ bs)
    one_so (inl d) rec = refused_so (d b).0 (d b).1.0 (subst Idle (d b).1.1 d)
    one_so (inr h) rec = go (verdict m (texts b)) refl
      where
        go : (v : Option Fault) → verdict m (texts b) ≡ v → FedAsStated m (b ∷ bs)
        go None e = taken_so e (rec e)
        go (Some f) e = refused_so f e (hard_idle m (texts b) f e (h b f e))

  pub fed_so : (bs : List ℕ) (m : Taker E) → LawfulThrough m bs (count m (text_orders bs)) → FedAsStated m bs
  fed_so [] m l = record { leads = refl; bytes = λ n. omega arith }
  fed_so (b ∷ bs) m l = one_so m b bs (l 0 (omega arith)).uniform (λ e. fed_so bs (after m (texts b)) (rest e))
    where
      rest : verdict m (texts b) ≡ None → LawfulThrough (after m (texts b)) bs (count (after m (texts b)) (text_orders bs))
      rest e k h =
          let c = ap (λ (x : Option Fault). count_on x (count (after m (texts b)) (text_orders bs))) e in
          subst (λ (x : Option Fault). Lawful (sent_on x (after m (texts b)) (sent (after m (texts b)) (text_orders (take k bs))))) e (l (suc k) (omega arith))

  pub as_stated : (start : Taker E) (h : List Step) (m : Taker E) → Reached start h m → AsStated start h m
  as_stated start [] m (begun l e) = record { leads = e; told = refl; bytes = refl }
  as_stated start (asked a r ∷ h) n (asks {m = m} p _ _ q e l) =
      let s = as_stated start h m p in
      let os = orders h in
      record {
        leads = e ∙ ap (λ (t : Taker E). after t (order a)) s.leads ∙ sym (offered_append start os (order a ∷ []));
        told =
            ap₂ (λ (x : Result ℕ Fault) (y : List Reply). record { ask = a; reply = x } ∷ y) (q ∙ ap (λ (t : Taker E). answered t (order a)) s.leads) s.told
            ∙ sym (reply_is a (answered (offered start os) (order a)) (stated start os []))
            ∙ sym (stated_append start os (order a ∷ []) []);
        bytes =
            s.bytes
            ∙ sym (tally_is a (verdict (offered start os) (order a)) (counted start os 0))
            ∙ sym (counted_append start os (order a ∷ []) 0);
      }
  as_stated start (fed bs c f ∷ h) n (feeds {m = m} p _ _ _ q g e t l) =
      let s = as_stated start h m p in
      let os = orders h in
      let w = fed_so bs m (subst (λ (k : ℕ). LawfulThrough m bs k) q t) in
      record {
        leads = e ∙ w.leads ∙ ap (λ (x : Taker E). offered x (text_orders bs)) s.leads ∙ sym (offered_append start os (text_orders bs));
        told = s.told ∙ sym (stated_texts (offered start os) bs (stated start os [])) ∙ sym (stated_append start os (text_orders bs) []);
        bytes =
            ap₂ (λ (x y : ℕ). x + y) s.bytes q
            ∙ w.bytes (counted start os 0)
            ∙ ap (λ (x : Taker E). counted x (text_orders bs) (counted start os 0)) s.leads
            ∙ sym (counted_append start os (text_orders bs) 0);
      }
