-- meaning: why a text can't go on at a place, and which place to name.
use Rattle.std.specs.Prelude.{◌≡◌, ℕ, ◌+◌, ◌<◌, ◌≤◌, ◌^◌, ◌⊎◌, Bool, List, [], ◌∷◌, ◌++◌, length, true, false, Some}
use Rattle.std.specs.List.{list_all}
use Rattle.sl_lex.specs.Bytes.{is_quote, is_line_end, is_text_byte}
use Rattle.sl_lex.specs.Lexemes.{Stops, IsLongest, HasNoLexeme}
use Rattle.sl_lex.specs.declared.mode.Mode.{Mode}
use Rattle.sl_lex.specs.declared.TokKind.TheVariants.{Integer}

-- Why a text does not go on: no lexeme stands there, a quote is not closed in its line, or an integer is too wide.
pub data Fault : Type 0 where
  NoLexeme : Fault
  OpenQuote : Fault
  TooWide : Fault

-- An opening quote stands at the front, and behind it these bytes of a text; what follows them is neither
-- one more nor the closing quote.
pub record IsOpen (text inside rest : List ℕ) : Type 0 where
  pub split : text ≡ 34 ∷ inside ++ rest
  pub bytes : list_all is_text_byte inside ≡ true
  pub ends : Stops is_text_byte rest
  pub unclosed : Stops is_quote rest

-- the line ends here, or the text does
abbrev pub is_at_line_end : List ℕ → Bool
is_at_line_end [] = true
is_at_line_end (b ∷ bs) = is_line_end b

-- The byte that is so many bytes ahead can't stand there: the first one where it begins no lexeme, or the first
-- behind an opening quote that is no byte of a text, unless the line ends there.
abbrev pub IsBadByte : ℕ → List ℕ → Type 0
IsBadByte ahead text =
    ((0 < length text) × Stops is_quote text × (ahead ≡ 0))
    ⊎ ((inside rest : List ℕ) × IsOpen text inside rest × (is_at_line_end rest ≡ false) × (ahead ≡ 1 + length inside))

-- The quote that is so many bytes ahead is not closed in its line.
abbrev pub IsOpenQuote : ℕ → List ℕ → Type 0
IsOpenQuote ahead text = (inside rest : List ℕ) × IsOpen text inside rest × (is_at_line_end rest ≡ true) × (ahead ≡ 0)

-- The longest lexeme is an integer above 2^64 - 1.
abbrev pub IsTooWide : Mode → List ℕ → Type 0
IsTooWide mode text = (value : ℕ) × (bytes rest : List ℕ) × (text ≡ bytes ++ rest) × IsLongest mode (Some (Integer value)) bytes rest × (2 ^ 64 ≤ value)

-- The text can't go on at its front in this mode, for this reason, and the place to name is so many bytes ahead.
abbrev pub IsFault : Mode → Fault → ℕ → List ℕ → Type 0
IsFault mode NoLexeme ahead text = HasNoLexeme mode text × IsBadByte ahead text
IsFault mode OpenQuote ahead text = HasNoLexeme mode text × IsOpenQuote ahead text
IsFault mode TooWide ahead text = IsTooWide mode text × (ahead ≡ 0)
