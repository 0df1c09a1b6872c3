-- meaning: the kinds of lexemes. A byte may follow others where some lexeme begins with all of them.
use Rattle.std.specs.Prelude.{◌≡◌, ℕ, Bool, true, false, ◌&&◌, ◌||◌, ◌==◌, nat_le, if◌then◌else◌, List, [], ◌∷◌, ◌++◌, length, slice_index, ◌-◌, Option, None, Some}
use Rattle.sl_ast.specs.Operators.{missing_function, missing_statement}
use Rattle.sl_ast.specs.Symbols.{keyword_of}
use Rattle.sl_ast.specs.declared.symbols.Keyword.{Keyword}
use Rattle.sl_ast.specs.declared.symbols.Keyword.TheVariants as k
use Rattle.sl_store_bytes.specs.Lexemes.{Follow, lexeme, IsRead}
use Rattle.sl_store_bytes.specs.Numbers.{greatest}
use Rattle.sl_store_bytes.specs.Reader.{Reader}

abbrev pub is_between : ℕ → ℕ → ℕ → Bool
is_between low high b = nat_le low b && nat_le b high

-- a letter, `_` or a dot
abbrev pub begins_word : ℕ → Bool
begins_word b = is_between 65 90 b || (is_between 97 122 b || (b == 95 || b == 46))

abbrev pub is_word_byte : ℕ → Bool
is_word_byte b = begins_word b || is_between 48 57 b

-- two dots are at the end
abbrev pub two_dots : List ℕ → Bool
two_dots before =
    nat_le 2 (length before) && (slice_index before (length before - 1) == 46 && slice_index before (length before - 2) == 46)

abbrev pub is_none : {A : Type 0} → Option A → Bool
is_none None = true
is_none (Some a) = false

-- the byte is one of a word
abbrev pub goes_on : List ℕ → ℕ → Bool
goes_on before b = if length before == 0 then begins_word b else is_word_byte b

-- and no third dot in a row
abbrev pub is_no_dot : List ℕ → ℕ → Bool
is_no_dot before b = if two_dots before then (if b == 46 then false else true) else true

-- where no more follow, all of them pass the test
abbrev pub is_whole : (List ℕ → Bool) → ℕ → List ℕ → Bool
is_whole allows left w = if left == 0 then allows w else true

-- bytes that are in place, and together a word that passes the test
unfoldable pub whole_follow : (List ℕ → ℕ → Bool) → (List ℕ → Bool) → Follow
whole_follow in_place allows left before b = in_place before b && is_whole allows left (before ++ b ∷ [])

-- words of a display
abbrev pub shown_follow : (List ℕ → Bool) → Follow
shown_follow = whole_follow goes_on

abbrev pub goes_on_undotted : List ℕ → ℕ → Bool
goes_on_undotted before b = goes_on before b && is_no_dot before b

-- words outside displays, where three dots are a mark
abbrev pub word_follow : (List ℕ → Bool) → Follow
word_follow = whole_follow goes_on_undotted

abbrev pub any_word : List ℕ → Bool
any_word w = true

-- ---- which words

-- a name, which the grammar doesn't quote
abbrev pub is_name : List ℕ → Bool
is_name w = is_none (keyword_of w)

-- a name that begins a statement
abbrev pub is_first : List ℕ → Bool
is_first w = is_name w && is_none (missing_statement w)

-- a name of a function
abbrev pub is_called : List ℕ → Bool
is_called w = is_name w && is_none (missing_function w)

-- a name that begins a statement that is a call
abbrev pub is_invoked : List ℕ → Bool
is_invoked w = is_first w && is_none (missing_function w)

abbrev pub is_member_by : Option Keyword → Bool
is_member_by (Some k.InstNext2) = false
is_member_by other = true

-- any word but `inst_next2`
abbrev pub is_member : List ℕ → Bool
is_member w = is_member_by (keyword_of w)

abbrev pub is_shown_by : Option Keyword → Bool
is_shown_by (Some k.Is) = false
is_shown_by other = true

-- any word but `is`
abbrev pub is_shown : List ℕ → Bool
is_shown w = is_shown_by (keyword_of w)

-- ---- other lexemes

abbrev pub is_text_byte : ℕ → Bool
is_text_byte b = is_between 32 126 b && (if b == 34 then false else true)

-- a quote, other printed bytes, and a quote at the end
unfoldable pub text_follow : Follow
text_follow left before b = if length before == 0 then b == 34 else (if left == 0 then b == 34 else is_text_byte b)

unfoldable pub blank_follow : Follow
blank_follow left before b = b == 32 || (b == 9 || (b == 13 || b == 10))

unfoldable pub caret_follow : Follow
caret_follow left before b = b == 94

-- a printed byte that begins nothing else in a display
abbrev pub is_char : ℕ → Bool
is_char b = is_between 33 126 b && (if b == 34 then false else (if b == 94 then false else (if begins_word b then false else true)))

unfoldable pub char_follow : Follow
char_follow left before b = is_char b

-- ---- readers

abbrev pub name : Reader (List ℕ)
name = lexeme (word_follow is_name) 1 greatest

abbrev pub first_name : Reader (List ℕ)
first_name = lexeme (word_follow is_first) 1 greatest

abbrev pub called_name : Reader (List ℕ)
called_name = lexeme (word_follow is_called) 1 greatest

abbrev pub invoked_name : Reader (List ℕ)
invoked_name = lexeme (word_follow is_invoked) 1 greatest

abbrev pub member_word : Reader (List ℕ)
member_word = lexeme (word_follow is_member) 1 greatest

abbrev pub shown_word : Reader (List ℕ)
shown_word = lexeme (shown_follow is_shown) 1 greatest

abbrev pub text : Reader (List ℕ)
text = lexeme text_follow 2 greatest

abbrev pub blank : Reader (List ℕ)
blank = lexeme blank_follow 1 greatest

abbrev pub caret : Reader (List ℕ)
caret = lexeme caret_follow 1 1

abbrev pub char : Reader (List ℕ)
char = lexeme char_follow 1 1

-- ---- what they read

-- a letter, `_` or a dot, and then letters, digits, `_` and dots, but no three dots in a row
abbrev pub IsWord : List ℕ → Type 0
IsWord = IsRead (word_follow any_word) 1 greatest

-- the same, where three dots may stand
abbrev pub IsDottedWord : List ℕ → Type 0
IsDottedWord = IsRead (shown_follow any_word) 1 greatest

-- a word that the grammar doesn't quote
abbrev pub IsName : List ℕ → Type 0
IsName w = IsWord w × (keyword_of w ≡ None)

-- such a word of a display
abbrev pub IsShownName : List ℕ → Type 0
IsShownName w = IsDottedWord w × (keyword_of w ≡ None)

-- a quote, printed bytes but quotes, and a quote
abbrev pub IsText : List ℕ → Type 0
IsText = IsRead text_follow 2 greatest

-- spaces, tabs, carriage returns and line feeds
abbrev pub IsBlank : List ℕ → Type 0
IsBlank = IsRead blank_follow 1 greatest

-- `^`
abbrev pub IsCaret : List ℕ → Type 0
IsCaret = IsRead caret_follow 1 1

-- another printed byte
abbrev pub IsChar : List ℕ → Type 0
IsChar = IsRead char_follow 1 1
