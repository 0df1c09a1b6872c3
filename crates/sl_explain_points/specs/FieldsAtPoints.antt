-- meaning: fields of a text with their values at a point.
use Rattle.std.specs.Prelude.{ℕ, ℤ, ◌-◌, ◌/◌, ◌%◌, ◌==◌, ◌&&◌, List, [], ◌∷◌, ◌++◌, codes, drop, nat_le, nat_lt, take, if◌then◌else◌}
use Rattle.std.specs.Prelude.{Bool, false, Option, Some, None}
use Rattle.std.specs.Int.{w128, to_be_bytes}
use Rattle.std.specs.Str.{bytes_eq}
use Rattle.sl_cube.specs.declared.Point.{Point}
use Rattle.sl_explain_heads.specs.Words.{text_at}
use Rattle.sl_explain_lines.specs.Excerpts.{shown_up_to}
use Rattle.sl_explain_names.specs.Definitions.{times_in}
use Rattle.sl_explain_names.specs.Items.{is_context_field}
use Rattle.sl_explain_names.specs.Names.{kind_by}
use Rattle.sl_explain_names.specs.TokenKinds.{has_after, number_after, text_after}
use Rattle.sl_explain_points.specs.declared.sites.Site.{Site}
use Rattle.sl_lex.specs.Reading as lexer
use Rattle.sl_show.specs.Numbers.{number_text}
use Rattle.sl_spec.specs.FieldValues.{token_integer, value_of}
use Rattle.sl_spec.specs.Tables.{Field, Token}
use Rattle.sl_word.specs.declared.word.Endian.{Endian}
use Rattle.sl_word.specs.declared.word.Endian.TheVariants.{Little, Big}

-- ---- what the definitions say

abbrev pub order_by : List ℕ → Endian
order_by text = if bytes_eq text (codes "little") then Little else Big

-- the byte order of a token, its own or else the text's, which the first item tells
abbrev pub order_of : List lexer.Token → (head : ℕ) → Endian
order_of ts head = if has_after ts head 6 (codes "endian") then order_by (text_after ts head 8) else order_by (text_at ts 3)

abbrev pub is_width : ℕ → Bool
is_width bits = nat_le 8 bits && (nat_le bits 64 && (bits % 8 == 0))

-- the token whose definition begins at this index: `define token NAME ( BITS )`
abbrev pub token_at : List lexer.Token → (head : ℕ) → Option Token
token_at ts head =
    if is_width (number_after ts head 4)
    then Some (record { name = text_after ts head 2; bits = number_after ts head 4; endian = order_of ts head })
    else None

abbrev pub is_signed : List lexer.Token → (index : ℕ) → Bool
is_signed ts index = nat_lt 0 (times_in (codes "signed") (drop 7 (drop index ts)))

-- the field whose definition begins at this index: `NAME = ( LOW , HIGH )`, and its attributes
abbrev pub field_at : List lexer.Token → (index : ℕ) → Option Field
field_at ts index =
    if nat_le (number_after ts index 3) (number_after ts index 5) && nat_le (number_after ts index 5) 63
    then Some (record {
      name = text_at ts index;
      token = None;
      low = number_after ts index 3;
      high = number_after ts index 5;
      signed = is_signed ts index;
      dec = false;
      noflow = false;
    })
    else None

-- ---- values

-- the integer of a token that begins at this byte of a point; none where it goes past the sixteen bytes
abbrev pub integer_at : Token → Point → (at : ℕ) → Option ℕ
integer_at t p at =
    if nat_le at 16 && nat_le (t.bits / 8) (16 - at)
    then Some (token_integer t.endian (take (t.bits / 8) (drop at (to_be_bytes w128 p.bytes))))
    else None

abbrev pub integer_in : Option Token → Point → (at : ℕ) → Option ℕ
integer_in None p at = None
integer_in (Some t) p at = integer_at t p at

-- the context, or the integer of the field's token
abbrev pub number_of : List lexer.Token → Site → Point → Option ℕ
number_of ts s p =
    if is_context_field (kind_by s.field.role) then Some p.context else integer_in (token_at ts s.field.head) p s.at

abbrev pub value_in : Field → Option ℕ → Option ℤ
value_in f None = None
value_in f (Some n) = Some (value_of f n)

abbrev pub value_by : Option Field → Option ℕ → Option ℤ
value_by None n = None
value_by (Some f) n = value_in f n

-- the value of a field at a point
unfoldable pub value_at : List lexer.Token → Site → Point → Option ℤ
value_at ts s p = value_by (field_at ts s.field.index) (number_of ts s p)

-- ---- words

unfoldable pub is_words : ℤ → List ℕ
is_words value = codes "=" ++ number_text false value

unfoldable pub name_words : List ℕ → List ℕ
name_words name = codes " " ++ shown_up_to 40 name

unfoldable pub named_words : (name : List ℕ) → ℤ → List ℕ
named_words name value = name_words name ++ is_words value

abbrev pub value_words : (name : List ℕ) → Option ℤ → List ℕ
value_words name None = []
value_words name (Some value) = named_words name value

-- each field with its value, as `NAME=VALUE` behind a blank
abbrev pub fields_words : List lexer.Token → Point → List Site → List ℕ
fields_words ts p [] = []
fields_words ts p (s ∷ ss) = value_words (text_at ts s.field.index) (value_at ts s p) ++ fields_words ts p ss
