-- meaning: lexemes, and the longest at a place.
use Rattle.std.specs.Prelude.{◌≡◌, ℕ, ◌<◌, ◌≤◌, ◌⊎◌, Bool, List, [], ◌∷◌, ◌++◌, length, true, false, nat_eq, codes, Option, None, Some, Contains}
use Rattle.std.specs.List.{list_all, starts_with}
use Rattle.sl_lex.specs.Bytes.{is_blank, is_hash, is_digit, is_hex_digit, is_binary_digit, begins_word, is_word_byte, is_comment_byte, is_text_byte, is_char, number}
use Rattle.sl_lex.specs.Marks.{marks_of}
use Rattle.sl_lex.specs.declared.mode.Mode.{Mode}
use Rattle.sl_lex.specs.declared.mode.Mode.TheVariants.{Top, Head, Plain, Body, Display, Pattern}
use Rattle.sl_lex.specs.declared.TokKind.{TokKind}
use Rattle.sl_lex.specs.declared.TokKind.TheVariants.{Word, Integer, Text, Mark, Blank, Caret, Char}

-- The bytes begin with one that passes the test.
abbrev pub BeginsWith : (ℕ → Bool) → List ℕ → Type 0
BeginsWith test [] = ⊥
BeginsWith test (b ∷ bs) = test b ≡ true

-- The bytes do not go on with one that passes the test.
abbrev pub Stops : (ℕ → Bool) → List ℕ → Type 0
Stops test [] = Unit {0}
Stops test (b ∷ bs) = test b ≡ false

-- Some bytes, each of which passes the test.
abbrev pub IsSpan : (ℕ → Bool) → List ℕ → Type 0
IsSpan test bytes = (0 < length bytes) × (list_all test bytes ≡ true)

-- One byte, which passes the test.
abbrev pub IsOne : (ℕ → Bool) → List ℕ → Type 0
IsOne test (b ∷ []) = test b ≡ true
IsOne test bytes = ⊥

-- A letter, `_` or a dot, and then letters, digits, `_` and dots.
abbrev pub IsWord : List ℕ → Type 0
IsWord bytes = BeginsWith begins_word bytes × (list_all is_word_byte bytes ≡ true)

-- Three dots stand at the front.
abbrev pub begins_with_dots : List ℕ → Bool
begins_with_dots text = starts_with nat_eq text (codes "...")

-- Three dots begin nowhere in the bytes, where the rest follows them.
abbrev pub HasNoDots : List ℕ → List ℕ → Type 0
HasNoDots [] rest = Unit {0}
HasNoDots (b ∷ bs) rest = (begins_with_dots (b ∷ bs ++ rest) ≡ false) × HasNoDots bs rest

-- The mark of a base, and then digits of that base that spell the number.
abbrev pub IsSpelled : List ℕ → (ℕ → Bool) → ℕ → ℕ → List ℕ → Type 0
IsSpelled mark is_digit_of base value bytes = (digits : List ℕ) × (bytes ≡ mark ++ digits) × IsSpan is_digit_of digits × (number base digits ≡ value)

-- Decimal digits, `0x` and hexadecimal digits, or `0b` and binary digits.
abbrev pub IsInteger : ℕ → List ℕ → Type 0
IsInteger value bytes =
    IsSpelled [] is_digit 10 value bytes ⊎ IsSpelled (codes "0x") is_hex_digit 16 value bytes ⊎ IsSpelled (codes "0b") is_binary_digit 2 value bytes

-- Bytes of a text between two quotes.
abbrev pub IsQuoted : List ℕ → Type 0
IsQuoted bytes = (inside : List ℕ) × (bytes ≡ 34 ∷ inside ++ 34 ∷ []) × (list_all is_text_byte inside ≡ true)

-- `#` and bytes of the same line.
abbrev pub IsComment : List ℕ → Type 0
IsComment bytes = BeginsWith is_hash bytes × (list_all is_comment_byte bytes ≡ true)

-- A lexeme of displays.
abbrev pub IsDisplayLexeme : Option TokKind → List ℕ → Type 0
IsDisplayLexeme (Some Word) bytes = IsWord bytes
IsDisplayLexeme (Some Text) bytes = IsQuoted bytes
IsDisplayLexeme (Some Blank) bytes = IsSpan is_blank bytes
IsDisplayLexeme (Some Caret) bytes = bytes ≡ codes "^"
IsDisplayLexeme (Some Char) bytes = IsOne is_char bytes
IsDisplayLexeme (Some (Integer value)) bytes = ⊥
IsDisplayLexeme (Some Mark) bytes = ⊥
IsDisplayLexeme None bytes = ⊥

-- A lexeme of a mode that has these marks, where the rest follows it. Blanks and comments are of no kind.
abbrev pub IsCodeLexeme : List (List ℕ) → Option TokKind → List ℕ → List ℕ → Type 0
IsCodeLexeme marks (Some Word) bytes rest = IsWord bytes × HasNoDots bytes rest
IsCodeLexeme marks (Some (Integer value)) bytes rest = IsInteger value bytes
IsCodeLexeme marks (Some Text) bytes rest = IsQuoted bytes
IsCodeLexeme marks (Some Mark) bytes rest = Contains marks bytes
IsCodeLexeme marks None bytes rest = IsSpan is_blank bytes ⊎ IsComment bytes
IsCodeLexeme marks (Some Blank) bytes rest = ⊥
IsCodeLexeme marks (Some Caret) bytes rest = ⊥
IsCodeLexeme marks (Some Char) bytes rest = ⊥

-- The bytes are a lexeme of this kind in this mode, where the rest follows them; blanks and comments, which
-- are dropped, are of no kind.
abbrev pub IsLexeme : Mode → Option TokKind → List ℕ → List ℕ → Type 0
IsLexeme Display kind bytes rest = IsDisplayLexeme kind bytes
IsLexeme Top kind bytes rest = IsCodeLexeme (marks_of Top) kind bytes rest
IsLexeme Head kind bytes rest = IsCodeLexeme (marks_of Head) kind bytes rest
IsLexeme Plain kind bytes rest = IsCodeLexeme (marks_of Plain) kind bytes rest
IsLexeme Body kind bytes rest = IsCodeLexeme (marks_of Body) kind bytes rest
IsLexeme Pattern kind bytes rest = IsCodeLexeme (marks_of Pattern) kind bytes rest

-- The bytes are a lexeme, and none that is longer stands at their place.
pub record IsLongest (mode : Mode) (kind : Option TokKind) (bytes rest : List ℕ) : Type 0 where
  pub lexeme : IsLexeme mode kind bytes rest
  pub longest : (other : Option TokKind) (front after : List ℕ) → bytes ++ rest ≡ front ++ after → IsLexeme mode other front after
      → length front ≤ length bytes

-- No lexeme of this mode stands at the front.
abbrev pub HasNoLexeme : Mode → List ℕ → Type 0
HasNoLexeme mode text = (kind : Option TokKind) (front rest : List ℕ) → text ≡ front ++ rest → IsLexeme mode kind front rest → ⊥
