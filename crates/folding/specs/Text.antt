-- A paragraph's text, and what it settles to.
use Rattle.std.specs.Prelude.{ℕ, zero, suc, Bool, false, cond, List, [], ◌∷◌, ◌==◌}
use Rattle.std.specs.Str.{bytes_eq}

-- a text is its bytes
abbrev pub Text : Type 0
Text = List ℕ

abbrev pub space : ℕ
space = 0x20

-- two dashes, and with a space behind them the signature separator (RFC 3676, 4.3 Usenet Signature Convention)
abbrev pub dashes : Text
dashes = 0x2D ∷ 0x2D ∷ []

abbrev pub signature : Text
signature = 0x2D ∷ 0x2D ∷ 0x20 ∷ []

abbrev pub ends_in_space : Text → Bool
ends_in_space [] = false
ends_in_space (b ∷ []) = b == space
ends_in_space (b ∷ c ∷ t) = ends_in_space (c ∷ t)

-- a byte before a text that is trimmed already: a space goes if nothing follows it
abbrev pub trim_before : ℕ → Text → Text
trim_before b [] = cond (b == space) [] (b ∷ [])
trim_before b (c ∷ t) = b ∷ c ∷ t

-- the text through its last byte that is no space
abbrev pub trimmed : Text → Text
trimmed [] = []
trimmed (b ∷ t) = trim_before b (trimmed t)

-- what a paragraph's text settles to: its trailing spaces go (RFC 3676, 4.2 Generating Format=Flowed: "Trim spaces before
-- user-inserted hard line breaks"), but the signature separator is sent as it is (4.3)
abbrev pub settled : Text → Text
settled t = cond (bytes_eq t signature) signature (trimmed t)

-- what the rest of a text settles to behind n lines: 2D 2D 20 is the signature separator only as the whole text
abbrev pub settled_behind : ℕ → Text → Text
settled_behind zero t = settled t
settled_behind (suc n) t = trimmed t
