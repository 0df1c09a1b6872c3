-- meaning: kinds of tokens, and the bytes round a token.
use Rattle.std.specs.Prelude.{ℕ, List, drop, Bool, true, false, Option, Some, None, slice_get}
use Rattle.std.specs.Str.{bytes_eq}
use Rattle.sl_explain_heads.specs.Words.{text_at, text_before}
use Rattle.sl_lex.specs.Reading.{Token}
use Rattle.sl_lex.specs.declared.TokKind.{TokKind}
use Rattle.sl_lex.specs.declared.TokKind.TheVariants.{Word, Integer, Text, Caret}

abbrev pub is_word : TokKind → Bool
is_word Word = true
is_word _ = false

abbrev pub is_integer : TokKind → Bool
is_integer (Integer value) = true
is_integer _ = false

abbrev pub is_caret : TokKind → Bool
is_caret Caret = true
is_caret _ = false

abbrev pub is_text : TokKind → Bool
is_text Text = true
is_text _ = false

-- the number that a token spells, or 0
abbrev pub value_of : TokKind → ℕ
value_of (Integer value) = value
value_of _ = 0

abbrev pub has_kind : (TokKind → Bool) → Option Token → Bool
has_kind test None = false
has_kind test (Some t) = test t.kind

abbrev pub number_in : Option Token → ℕ
number_in None = 0
number_in (Some t) = value_of t.kind

-- whether the token of this index is a word
abbrev pub is_word_at : List Token → ℕ → Bool
is_word_at ts index = has_kind is_word (slice_get ts index)

-- the number that the token spells which stands so many after the one of this index, or 0
abbrev pub number_after : List Token → (index ahead : ℕ) → ℕ
number_after ts index ahead = number_in (slice_get (drop index ts) ahead)

-- the bytes of that token
abbrev pub text_after : List Token → (index ahead : ℕ) → List ℕ
text_after ts index ahead = text_at (drop index ts) ahead

-- whether they are these
abbrev pub has_after : List Token → (index ahead : ℕ) → (text : List ℕ) → Bool
has_after ts index ahead text = bytes_eq (text_after ts index ahead) text

-- whether the token of this index has these bytes
abbrev pub has_here : List Token → (index : ℕ) → (text : List ℕ) → Bool
has_here ts index text = bytes_eq (text_at ts index) text

-- whether the token that stands so many before it has these bytes
abbrev pub has_before : List Token → (index back : ℕ) → (text : List ℕ) → Bool
has_before ts index back text = bytes_eq (text_before ts index back) text
