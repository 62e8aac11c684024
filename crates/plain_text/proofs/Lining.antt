-- A text cut into its lines.
use Rattle.std.proofs.Common.{◌≡◌, ℕ, Bool, true, false, cond, ◌&&◌, eqb, List, [], ◌∷◌, ◌++◌, map, Bor, Some, None, Option, sym, refl, ap, ◌∙◌, subst, inl, inr, append_assoc}
use Rattle.std.specs.Option.{MatchOption, unwrap_or}
use Rattle.std.proofs.Math.Bool.{and-false}
use Rattle.std.proofs.ByRecursion.{All-push}
use Rattle.std.proofs.lemmas.Bool.{cond-false, cases_Bool, eqb-true, ne_eqb}
use Rattle.folding.specs.Text.{Text}
use Rattle.plain_text.specs.Lines.{line_feed, carriage_return, onto, cut, is_end, line_text, text_lines, NoFeed, ends_in, Lines, none, unended, by_crlf, by_lf, CutSo}

-- a line with its LF is the first
pub cut_feed : (c u : Text) → NoFeed c → cut (c ++ line_feed ∷ u) ≡ (c ++ line_feed ∷ []) ∷ cut u
cut_feed [] u h = refl
cut_feed (b ∷ c) u h = ap (λ (x : Bool). cond x ((b ∷ []) ∷ cut (c ++ line_feed ∷ u)) (onto b (cut (c ++ line_feed ∷ u)))) h.0 ∙ ap (onto b) (cut_feed c u h.1)

-- a text without LF is its one line
pub cut_last : (b : ℕ) (c : Text) → NoFeed (b ∷ c) → cut (b ∷ c) ≡ (b ∷ c) ∷ []
cut_last b [] h = ap (λ (x : Bool). cond x ((b ∷ []) ∷ []) ((b ∷ []) ∷ [])) h.0
cut_last b (d ∷ c) h = ap (λ (x : Bool). cond x ((b ∷ []) ∷ cut (d ∷ c)) (onto b (cut (d ∷ c)))) h.0 ∙ ap (onto b) (cut_last d c h.1)

-- a byte that begins no line end
text_byte : (b : ℕ) (t : Text) → is_end (b ∷ t) ≡ false → line_text (b ∷ t) ≡ b ∷ line_text t
text_byte b t h = cond-false (is_end (b ∷ t)) [] (b ∷ line_text t) h

pub text_whole : (c : Text) → ends_in line_feed c ≡ false → line_text c ≡ c
text_whole [] h = refl
text_whole (b ∷ []) h = text_byte b [] h
text_whole (b ∷ d ∷ []) h = text_byte b (d ∷ []) (ap (λ (x : Bool). eqb b carriage_return && x) h ∙ and-false (eqb b carriage_return)) ∙ ap (λ (l : Text). b ∷ l) (text_whole (d ∷ []) h)
text_whole (b ∷ d ∷ e ∷ c) h = text_byte b (d ∷ e ∷ c) refl ∙ ap (λ (l : Text). b ∷ l) (text_whole (d ∷ e ∷ c) h)

-- a text that is nothing before the byte x does not end in it
pub not_ended : (x : ℕ) (c : Text) → ((front : Text) → c ≡ front ++ x ∷ [] → ⊥) → ends_in x c ≡ false
not_ended x [] h = refl
not_ended x (b ∷ []) h = ne_eqb b x (λ e. h [] (ap (λ (v : ℕ). v ∷ []) e))
not_ended x (b ∷ d ∷ c) h = not_ended x (d ∷ c) (λ front e. h (b ∷ front) (ap (λ (l : Text). b ∷ l) e))

pub text_lf : (c : Text) → ends_in carriage_return c ≡ false → line_text (c ++ line_feed ∷ []) ≡ c
text_lf [] h = refl
text_lf (b ∷ []) h = text_byte b (line_feed ∷ []) (ap (λ (x : Bool). x && true) h)
text_lf (b ∷ d ∷ []) h = text_byte b (d ∷ line_feed ∷ []) refl ∙ ap (λ (l : Text). b ∷ l) (text_lf (d ∷ []) h)
text_lf (b ∷ d ∷ e ∷ c) h = text_byte b (d ∷ e ∷ c ++ line_feed ∷ []) refl ∙ ap (λ (l : Text). b ∷ l) (text_lf (d ∷ e ∷ c) h)

pub text_crlf : (c : Text) → line_text (c ++ carriage_return ∷ line_feed ∷ []) ≡ c
text_crlf [] = refl
text_crlf (b ∷ []) = text_byte b (carriage_return ∷ line_feed ∷ []) refl
text_crlf (b ∷ d ∷ []) = text_byte b (d ∷ carriage_return ∷ line_feed ∷ []) refl ∙ ap (λ (l : Text). b ∷ l) (text_crlf (d ∷ []))
text_crlf (b ∷ d ∷ e ∷ c) = text_byte b (d ∷ e ∷ c ++ carriage_return ∷ line_feed ∷ []) refl ∙ ap (λ (l : Text). b ∷ l) (text_crlf (d ∷ e ∷ c))

-- what is left of a line where its LF goes, and then its CR
pub without_cr : (l : Text) (x : Bor Text) (r : Option (Bor Text)) → l ≡ x.now ++ line_feed ∷ [] → MatchOption r ((front : Text) → x.now ≡ front ++ carriage_return ∷ [] → ⊥) (λ y. x.now ≡ y.now ++ carriage_return ∷ []) → (unwrap_or r x).now ≡ line_text l
without_cr l x None e h = sym (ap line_text e ∙ text_lf x.now (not_ended carriage_return x.now h))
without_cr l x (Some y) e h = sym (ap line_text (e ∙ ap (λ (t : Text). t ++ line_feed ∷ []) h ∙ append_assoc y.now (carriage_return ∷ []) (line_feed ∷ [])) ∙ text_crlf y.now)

pub lines_lf : (c u : Text) → NoFeed c → ends_in carriage_return c ≡ false → text_lines (c ++ line_feed ∷ u) ≡ c ∷ text_lines u
lines_lf c u h e = ap (map line_text) (cut_feed c u h) ∙ ap (λ (l : Text). l ∷ text_lines u) (text_lf c e)

pub lines_crlf : (c u : Text) → NoFeed c → text_lines (c ++ carriage_return ∷ line_feed ∷ u) ≡ c ∷ text_lines u
lines_crlf c u h =
    let joins : (v : Text) → (c ++ carriage_return ∷ []) ++ line_feed ∷ v ≡ c ++ carriage_return ∷ line_feed ∷ v = λ v. append_assoc c (carriage_return ∷ []) (line_feed ∷ v) in
    ap text_lines (sym (joins u))
    ∙ ap (map line_text) (cut_feed (c ++ carriage_return ∷ []) u (All-push (λ b. eqb b line_feed ≡ false) c carriage_return h refl))
    ∙ ap (λ (l : Text). line_text l ∷ text_lines u) (joins [])
    ∙ ap (λ (l : Text). l ∷ text_lines u) (text_crlf c)

-- the end of a text in which there is no LF
no_feed_ends : (c : Text) → NoFeed c → ends_in line_feed c ≡ false
no_feed_ends [] h = refl
no_feed_ends (b ∷ []) h = h.0
no_feed_ends (b ∷ d ∷ c) h = no_feed_ends (d ∷ c) h.1

pub lines_last : (c : Text) → (c ≡ [] → ⊥) → NoFeed c → text_lines c ≡ c ∷ []
lines_last [] ne h = absurd (ne refl)
lines_last (b ∷ c) ne h = ap (map line_text) (cut_last b c h) ∙ ap (λ (l : Text). l ∷ []) (text_whole (b ∷ c) (no_feed_ends (b ∷ c) h))

pub only_lines : {t : Text} {ls : List Text} → Lines t ls → ls ≡ text_lines t
only_lines none = refl
only_lines (unended {c} ne h) = sym (lines_last c ne h)
only_lines (by_crlf {c} {t} {u} {ls} e h r) = ap (λ (l : List Text). c ∷ l) (only_lines r) ∙ sym (lines_crlf c u h) ∙ ap text_lines (sym e)
only_lines (by_lf {c} {t} {u} {ls} e h x r) = ap (λ (l : List Text). c ∷ l) (only_lines r) ∙ sym (lines_lf c u h x) ∙ ap text_lines (sym e)

-- a byte that is no LF goes to the first line; a CR before its LF goes to the line's end
grown_lf : (b : ℕ) → eqb b line_feed ≡ false → (c t u : Text) (ls : List Text) → t ≡ c ++ line_feed ∷ u → NoFeed c → ends_in carriage_return c ≡ false → Lines u ls → (ms : List Text) × Lines (b ∷ t) ms
grown_lf b h [] t u ls e k x r = elim (cases_Bool (eqb b carriage_return)) [
  | inl y ↦ ([] ∷ ls, by_crlf {u = u} (ap (λ (l : Text). b ∷ l) e ∙ ap (λ (v : ℕ). v ∷ line_feed ∷ u) (eqb-true b carriage_return y)) tt r)
  | inr y ↦ ((b ∷ []) ∷ ls, by_lf {u = u} (ap (λ (l : Text). b ∷ l) e) (h, tt) y r)
]
grown_lf b h (d ∷ c) t u ls e k x r = ((b ∷ d ∷ c) ∷ ls, by_lf {u = u} (ap (λ (l : Text). b ∷ l) e) (h, k) x r)

not_empty : (b : ℕ) (t : Text) → b ∷ t ≡ [] → ⊥
not_empty b t e = cc

grown : (b : ℕ) → eqb b line_feed ≡ false → {t : Text} {ls : List Text} → Lines t ls → (ms : List Text) × Lines (b ∷ t) ms
grown b h none = ((b ∷ []) ∷ [], unended (not_empty b []) (h, tt))
grown b h (unended {c} ne k) = ((b ∷ c) ∷ [], unended (not_empty b c) (h, k))
grown b h (by_crlf {c} {t} {u} {ls} e k r) = ((b ∷ c) ∷ ls, by_crlf {u = u} (ap (λ (l : Text). b ∷ l) e) (h, k) r)
grown b h (by_lf {c} {t} {u} {ls} e k x r) = grown_lf b h c t u ls e k x r

some_lines : (t : Text) → (ls : List Text) × Lines t ls
some_lines [] = ([], none)
some_lines (b ∷ t) = elim (cases_Bool (eqb b line_feed)) [
  | inl y ↦ ([] ∷ (some_lines t).0, by_lf {u = t} (ap (λ (v : ℕ). v ∷ t) (eqb-true b line_feed y)) tt refl (some_lines t).1)
  | inr y ↦ grown b y (some_lines t).1
]

pub cut_as_stated : (t : Text) → CutSo t
cut_as_stated t = record {
  cut_so = subst (Lines t) (only_lines (some_lines t).1) (some_lines t).1;
  only_so = λ ls l. only_lines l;
}
