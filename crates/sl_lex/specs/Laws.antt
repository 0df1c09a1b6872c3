-- law: laws of the definitions.
use Rattle.std.specs.Prelude.{◌≡◌, ℕ, ◌+◌, ◌<◌, ◌≤◌, List, [], ◌∷◌, length, take, drop, All}
use Rattle.std.specs.Prelude.{◌⊎◌, Option, Some}
use Rattle.sl_lex.specs.Faults.{Fault}
use Rattle.sl_lex.specs.Lexemes.{IsLongest}
use Rattle.sl_lex.specs.Reading.{Token, ReadsTo, ReadsAs, HasBadPlace, Fits}
use Rattle.sl_lex.specs.declared.mode.Mode.{Mode}

-- The text reads as some tokens, or has a first bad place.
abbrev pub HasReading : List ℕ → Type 0
HasReading text = ((tokens : List Token) × ReadsAs text tokens)
    ⊎ ((fault : Fault) × (place : ℕ) × HasBadPlace text fault place)

-- Each text reads to its end or to its first bad place.
abbrev pub EachTextReads : Type 0
EachTextReads = (text : List ℕ) → HasReading text

-- A text reads in one way alone: it has one list of tokens, and one end.
abbrev pub HasOneReading : Type 0
HasOneReading = (text : List ℕ) (ts us : List Token) (end fin : Option (Fault × ℕ))
    → ReadsTo text ts end → ReadsTo text us fin → (ts ≡ us) × (end ≡ fin)

-- The token's bytes, of which there are some, are those of the text at the token's place.
pub record IsSliceOf (text : List ℕ) (t : Token) : Type 0 where
  pub some : 0 < length t.text
  pub within : t.from + length t.text ≤ length text
  pub bytes : take (length t.text) (drop t.from text) ≡ t.text

-- The first token begins at this place or later, and each other one where the one before it ends,
-- or later.
abbrev pub LieInOrder : ℕ → List Token → Type 0
LieInOrder place [] = Unit {0}
LieInOrder place (t ∷ ts) = (place ≤ t.from) × LieInOrder (t.from + length t.text) ts

-- The tokens of a text are slices of it, in the text's order, and do not overlap.
abbrev pub TokensAreSlices : Type 0
TokensAreSlices = (text : List ℕ) (ts : List Token) (end : Option (Fault × ℕ))
    → ReadsTo text ts end → All (IsSliceOf text) ts × LieInOrder 0 ts

-- The token is the longest lexeme of its kind in some mode, before what follows it; an integer
-- fits 64 bits.
abbrev pub IsSomeLexeme : Token → Type 0
IsSomeLexeme t =
    (mode : Mode) × (rest : List ℕ) × IsLongest mode (Some t.kind) t.text rest × Fits (Some t.kind)

-- Each token of a text has the bytes of its kind.
abbrev pub TokensAreLexemes : Type 0
TokensAreLexemes = (text : List ℕ) (ts : List Token) (end : Option (Fault × ℕ))
    → ReadsTo text ts end → All IsSomeLexeme ts
