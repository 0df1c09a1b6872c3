-- step: what the functions of the lexer hand on.
use Rattle.std.specs.Prelude.{◌≡◌, ℕ, ◌+◌, ◌<◌, ◌≤◌, ◌&&◌, ◌||◌, ◌++◌, Bool, true, List, [], ◌∷◌, length, take, drop, not, if◌then◌else◌, Option, Some, None, Contains}
use Rattle.std.specs.List.{list_all}
use Rattle.std.specs.Option.{option_map, option_to_list}
use Rattle.sl_lex.specs.Bytes.{is_quote, is_blank, is_hash, is_digit, is_word_byte, number}
use Rattle.sl_lex.specs.Faults.{IsFault, IsTooWide}
use Rattle.sl_lex.specs.Faults.Fault.{NoLexeme, OpenQuote, TooWide}
use Rattle.sl_lex.specs.Lexemes.{IsLongest, HasNoLexeme, IsWord, HasNoDots, IsInteger, begins_with_dots}
use Rattle.sl_lex.specs.Reading.{Fits, Piece, IsPieceAt, tokens_of, mode_after}
use Rattle.sl_lex.specs.Views.{view}
use Rattle.sl_lex.specs.declared.LexError.{LexError}
use Rattle.sl_lex.specs.declared.LexError.TheVariants.{BadByte, OpenString, WideInteger, NoMemory}
use Rattle.sl_lex.specs.declared.TokKind.{TokKind}
use Rattle.sl_lex.specs.declared.lexemes.Found.{Found}
use Rattle.sl_lex.specs.declared.lexemes.Found.TheVariants.{Gap, Token, TooWide as Wide, Nothing}
use Rattle.sl_lex.specs.declared.lexer.Step.{Step}
use Rattle.sl_lex.specs.declared.mode.Mode.{Mode}
use Rattle.sl_lex.specs.declared.mode.Mode.TheVariants.{Display}

-- Which lexemes a byte may begin outside displays: texts; blanks and comments; integers; or words and marks.
abbrev pub class_of : ℕ → ℕ
class_of b = if is_quote b then 1 else if is_blank b || is_hash b then 2 else if is_digit b then 3 else 0

-- how many bytes go on a word, up to three dots
abbrev pub word_len : List ℕ → ℕ
word_len [] = 0
word_len (b ∷ bs) = if is_word_byte b && not (begins_with_dots (b ∷ bs)) then 1 + word_len bs else 0

-- So many bytes at the front are the longest word outside displays that stands there; none where none does.
pub record IsLongestWord (text : List ℕ) (count : ℕ) : Type 0 where
  pub within : count ≤ length text
  pub found : 0 < count → IsWord (take count text) × HasNoDots (take count text) (drop count text)
  pub longest : (front rest : List ℕ) → IsWord front → HasNoDots front rest → text ≡ front ++ rest → length front ≤ count

-- So many bytes at the front are the longest of these marks that stands there; none where none does.
pub record IsLongestMark (marks : List (List ℕ)) (text : List ℕ) (count : ℕ) : Type 0 where
  pub within : count ≤ length text
  pub found : 0 < count → Contains marks (take count text)
  pub longest : (front rest : List ℕ) → Contains marks front → text ≡ front ++ rest → length front ≤ count

-- So many digits stand behind the mark of a base at the front; none where the mark or a digit lacks.
pub record IsLongestSpelled (mark : List ℕ) (is_digit_of : ℕ → Bool) (text : List ℕ) (count : ℕ) : Type 0 where
  pub found : 0 < count → (text ≡ mark ++ drop (length mark) text) × (count ≤ length (drop (length mark) text))
      × (list_all is_digit_of (take count (drop (length mark) text)) ≡ true)
  pub longest : (digits rest : List ℕ) → list_all is_digit_of digits ≡ true → text ≡ mark ++ digits ++ rest → length digits ≤ count

-- The longest integer at the front has its digits in this base, so many of them behind so many bytes.
pub record IsLongestInteger (text : List ℕ) (base mark count : ℕ) : Type 0 where
  pub some : 0 < base
  pub within : mark + count ≤ length text
  pub found : IsInteger (number base (take count (drop mark text))) (take (mark + count) text)
  pub longest : (value : ℕ) (front rest : List ℕ) → IsInteger value front → text ≡ front ++ rest → length front ≤ mark + count

-- So many bytes at the front are the longest lexeme, and of this kind.
pub record StandsAs (mode : Mode) (kind : Option TokKind) (count : ℕ) (text : List ℕ) : Type 0 where
  pub within : count ≤ length text
  pub longest : IsLongest mode kind (take count text) (drop count text)

-- What stands at the front of a text in a mode.
abbrev pub Finds : Mode → List ℕ → Found → Type 0
Finds mode text (Gap count) = StandsAs mode None count text
Finds mode text (Token kind count) = StandsAs mode (Some kind) count text × Fits (Some kind)
Finds mode text Wide = IsTooWide mode text
Finds mode text Nothing = HasNoLexeme mode text

-- The same in each mode that has comments.
abbrev pub FindsOutside : List ℕ → Found → Type 0
FindsOutside text found = (mode : Mode) → (mode ≡ Display → ⊥) → Finds mode text found

-- The error is the fault of the text at whose front nothing can stand, and names its place, where the front is at this one.
abbrev pub Blames : Mode → ℕ → List ℕ → LexError → Type 0
Blames mode from text (BadByte place) = (ahead : ℕ) × IsFault mode NoLexeme ahead text × (place ≡ from + ahead)
Blames mode from text (OpenString place) = (ahead : ℕ) × IsFault mode OpenQuote ahead text × (place ≡ from + ahead)
Blames mode from text (WideInteger place) = (ahead : ℕ) × IsFault mode TooWide ahead text × (place ≡ from + ahead)
Blames mode from text NoMemory = ⊥

-- The same in each mode in which no lexeme stands there.
abbrev pub BlamesWhereNothing : ℕ → List ℕ → LexError → Type 0
BlamesWhereNothing from text error = (mode : Mode) → HasNoLexeme mode text → Blames mode from text error

-- A piece stands at the front: its token, if it is one, the mode that it leads to, and what follows it.
abbrev pub Steps : Mode → ℕ → List ℕ → Step → Type 0
Steps mode from text s = (p : Piece) × IsPieceAt mode from text p s.rest.now × (tokens_of (p ∷ []) ≡ option_to_list (option_map view s.token))
    × (mode_after mode p.kind p.text ≡ s.mode)
