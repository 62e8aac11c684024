-- The content of a line, byte by byte.
use Rattle.std.proofs.Common.{◌≡◌, ℕ, Bool, true, false, cond, ◌&&◌, List, [], ◌∷◌, ◌++◌, sym, refl, ap, ◌∙◌, subst, append_assoc, append-nil}
use Rattle.std.specs.Str.{bytes_eq}
use Rattle.std.proofs.lemmas.List.{map_push}
use Rattle.std.proofs.lemmas.Bool.{both_ways}
use Rattle.taker.specs.Paragraph.{barred}
use Rattle.folding.specs.Text.{Text, signature, ends_in_space}
use Rattle.folding.specs.WireLine.{crlf}
use Rattle.folding.specs.Reading.{Line, kind}
use Rattle.folding.proofs.Spaces.{ends_behind}
use Rattle.reading.specs.Lines.{Clean, is_signed}
use Rattle.reading.specs.Paragraphs.{open_after}
use Rattle.reading.specs.Events.{Event, opened, text, ended, texts, end_unless}
use Rattle.reading.specs.Machine.{Content, held, passed, in_content, behind_cr, at_line, hands, beginning_of, content_byte, line_byte, line_end, step}
use Rattle.reading.proofs.Cleaning.{unbarred_unlike}
use Rattle.reading.proofs.Runs.{Goes, goes_none, goes_as, goes_byte, goes_then}
use Rattle.reading.proofs.Signatures.{beginning_shorter, same_beginning, beginning_ends}

-- how the content so far stands, and what of it has been handed on
abbrev pub stands : Text → Content
stands c = cond (beginning_of c signature) (held c) (passed (ends_in_space c))

abbrev pub gone : Text → List Event
gone c = cond (beginning_of c signature) [] (texts c)

-- a byte that is text
pub clean_byte : (d : ℕ) (k : Bool) (c : Content) (b : ℕ) → barred b ≡ false → line_byte d k c b ≡ content_byte d k c b
clean_byte d k c b e = let u = unbarred_unlike b e in rw (u.null, u.line_feed, u.return) refl

-- what a byte more of content hands on
record ByteGoesOn (d : ℕ) (k : Bool) (c : Text) (b : ℕ) : Type 0 where
  events : List Event
  goes : step (in_content d k (stands c)) b ≡ hands events (in_content d k (stands (c ++ b ∷ [])))
  adds : gone c ++ events ≡ gone (c ++ b ∷ [])

byte_goes_on : (d : ℕ) (k : Bool) (c : Text) (b : ℕ) → barred b ≡ false → ByteGoesOn d k c b
byte_goes_on d k c b e = go (beginning_of c signature) refl (beginning_of (c ++ b ∷ []) signature) refl
  where
    go : (x : Bool) → beginning_of c signature ≡ x → (y : Bool) → beginning_of (c ++ b ∷ []) signature ≡ y → ByteGoesOn d k c b
    go true p true q = record { events = []; goes = clean_byte d k (stands c) b e ∙ rw (p, q) refl; adds = rw (p, q) refl }
    go true p false q = record {
      events = texts (c ++ b ∷ []);
      goes = clean_byte d k (stands c) b e ∙ rw (p, q, ends_behind c b []) refl;
      adds = rw (p, q) refl;
    }
    go false p true q = absurd (both_ways (beginning_of c signature) p (beginning_shorter c (b ∷ []) signature q))
    go false p false q = record {
      events = text b ∷ [];
      goes = clean_byte d k (stands c) b e ∙ rw (p, q, ends_behind c b []) refl;
      adds = rw (p, q) (sym (map_push text c b));
    }

-- and what more of it hands on, up to the content u
record GoesOn (d : ℕ) (k : Bool) (c t u : Text) : Type 0 where
  events : List Event
  goes : Goes (in_content d k (stands c)) t events (in_content d k (stands u))
  adds : gone c ++ events ≡ gone u

content_goes_on : (d : ℕ) (k : Bool) (c t u : Text) → c ++ t ≡ u → Clean t → GoesOn d k c t u
content_goes_on d k c [] u e h =
    let q : c ≡ u = sym (append-nil c) ∙ e in
    record {
      events = [];
      goes = subst (λ (v : Text). Goes (in_content d k (stands c)) [] [] (in_content d k (stands v))) q goes_none;
      adds = append-nil (gone c) ∙ ap gone q;
    }
content_goes_on d k c (b ∷ t) u e h =
    let f = byte_goes_on d k c b h.0 in
    let r = content_goes_on d k (c ++ b ∷ []) t u (append_assoc c (b ∷ []) t ∙ e) h.1 in
    record {
      events = f.events ++ r.events;
      goes = goes_byte f.goes r.goes;
      adds = sym (append_assoc (gone c) f.events r.events) ∙ ap (λ (es : List Event). es ++ r.events) f.adds ∙ r.adds;
    }

-- a signature line in a paragraph that was open before it: that one is ended, and another opened
abbrev pub apart : Bool → ℕ → Text → List Event
apart k d c = cond (is_signed (kind c) && k) (ended ∷ opened d ∷ []) []

-- what a line hands on behind that, and what it leaves open
abbrev pub told_line : Line → List Event
told_line l = texts l.content ++ end_unless (open_after l)

abbrev pub line : ℕ → Text → Line
line d c = record { depth = d; content = c }

record Ends (d : ℕ) (k : Bool) (c : Text) : Type 0 where
  events : List Event
  ends : line_end d k (stands c) ≡ hands events (at_line (open_after (line d c)))
  adds : gone c ++ events ≡ apart k d c ++ told_line (line d c)

content_ends : (d : ℕ) (k : Bool) (c : Text) → Ends d k c
content_ends d k c = go (beginning_of c signature) refl (bytes_eq c signature) refl (ends_in_space c) refl
  where
    go : (x : Bool) → beginning_of c signature ≡ x → (y : Bool) → bytes_eq c signature ≡ y → (z : Bool) → ends_in_space c ≡ z → Ends d k c
    go true p true q z r = record { events = cond k (ended ∷ opened d ∷ []) [] ++ (texts c ++ ended ∷ []); ends = rw (p, q) refl; adds = rw (p, q) refl }
    go true p false q true r = absurd (both_ways (bytes_eq c signature) q (beginning_ends c p r))
    go true p false q false r = record { events = texts c ++ ended ∷ []; ends = rw (p, q, r) refl; adds = rw (p, q, r) refl }
    go false p true q z r = absurd (both_ways (beginning_of c signature) p (same_beginning c signature q))
    go false p false q true r = record { events = []; ends = rw (p, q, r) refl; adds = rw (p, q, r) refl }
    go false p false q false r = record { events = ended ∷ []; ends = rw (p, q, r) refl; adds = rw (p, q, r) refl }

-- the rest of a line whose depth is settled
pub content_line : (d : ℕ) (k : Bool) (c : Text) → Clean c →
    Goes (in_content d k (held [])) (c ++ crlf) (apart k d c ++ told_line (line d c)) (at_line (open_after (line d c)))
content_line d k c h =
    let r = content_goes_on d k [] c c refl h in
    let f = content_ends d k c in
    let end : Goes (behind_cr d k (stands c)) (0x0A ∷ []) (f.events ++ []) (at_line (open_after (line d c))) = goes_byte f.ends goes_none in
    let cr : Goes (in_content d k (stands c)) crlf (f.events ++ []) (at_line (open_after (line d c))) = goes_byte refl end in
    goes_as (goes_then r.goes cr)
    (ap (λ (es : List Event). r.events ++ es) (append-nil f.events) ∙ ap (λ (es : List Event). es ++ f.events) r.adds ∙ f.adds)
