-- meaning: what the tokens of an expression say of the size of its value.
use Rattle.std.specs.Prelude.{ℕ, zero, suc, ◌-◌, ◌==◌, ◌&&◌, ◌||◌, List, [], ◌∷◌, codes, drop, length, nat_lt, take}
use Rattle.std.specs.Prelude.{Bool, false, Option, Some, None, if◌then◌else◌, slice_get}
use Rattle.std.specs.Str.{bytes_eq}
use Rattle.sl_explain_heads.specs.Words.{text_at}
use Rattle.sl_explain_names.specs.Items.{is_operation, is_parameter, kind_of}
use Rattle.sl_explain_names.specs.TokenKinds.{has_after, has_here, has_kind, is_integer, is_word_at, number_after}
use Rattle.sl_explain_sizes.specs.Operators.{class_of, main_of, star_length}
use Rattle.sl_explain_sizes.specs.Slices.{after_bracket, beyond, extent_of, in_bracket}
use Rattle.sl_explain_sizes.specs.Widths.{Scope, bit_bytes, is_bytes, is_untold, named, star_size, told}
use Rattle.sl_explain_sizes.specs.declared.operators.Class.{Class}
use Rattle.sl_explain_sizes.specs.declared.operators.Class.TheVariants as class
use Rattle.sl_explain_sizes.specs.declared.values.Value.{Value}
use Rattle.sl_explain_sizes.specs.declared.widths.Width.{Width}
use Rattle.sl_explain_sizes.specs.declared.widths.Width.TheVariants as width
use Rattle.sl_lex.specs.Reading.{Token}

-- A value with this width whose first token, which is no parameter, is the first of these.
abbrev pub value_with : List Token → Width → Value
value_with ts w = record { width = w; extent = extent_of (take 1 ts); is_given = false }

-- A value that may have any size, told at all of these tokens.
abbrev pub open_value : List Token → Value
open_value ts = record { width = width.Open; extent = extent_of ts; is_given = false }

abbrev pub with_width : Value → Width → Value
with_width v w = record { width = w; extent = v.extent; is_given = v.is_given }

-- A number isn't one by itself where something is done with it.
abbrev pub loosened_width : Width → Width
loosened_width width.Number = width.Open
loosened_width (width.Bytes size) = width.Bytes size
loosened_width width.Open = width.Open
loosened_width width.Untold = width.Untold

abbrev pub loosened : Value → Value
loosened v = with_width v (loosened_width v.width)

-- ---- operators

-- of two values of one size: what one of them says
abbrev pub alike : Value → Value → Value
alike left right =
    if is_bytes left.width then left
    else if is_bytes right.width then right
    else if is_untold right.width then right
    else loosened left

abbrev pub combined : Class → Value → Value → Value
combined class.Alike left right = alike left right
combined class.Shift left right = loosened left
combined class.Test left right = with_width left (width.Bytes 1)
combined class.Boolean left right = with_width left (width.Bytes 1)
combined class.Comma left right = with_width left width.Untold

-- ---- what isn't an operator with two sides

abbrev pub is_minus : List Token → Bool
is_minus ts = has_here ts 0 (codes "-") || has_here ts 0 (codes "~")

abbrev pub is_not : List Token → Bool
is_not ts = has_here ts 0 (codes "!")

abbrev pub is_star : List Token → Bool
is_star ts = has_here ts 0 (codes "*")

abbrev pub is_group : List Token → Bool
is_group ts = has_here ts 0 (codes "(")

abbrev pub is_call : List Token → Bool
is_call ts = is_word_at ts 0 && has_after ts 0 1 (codes "(")

-- the expression behind a prefix, the pointer of a star form, what is in the brackets of a group or of a call
abbrev pub inside : List Token → List Token
inside ts =
    if is_minus ts || is_not ts then drop 1 ts
    else if is_star ts then drop (star_length ts) (drop 1 ts)
    else if is_group ts then in_bracket (drop 1 ts)
    else if is_call ts then in_bracket (drop 2 ts)
    else []

-- what stands behind a group, a call, a name or an integer
abbrev pub suffix_of : List Token → List Token
suffix_of ts =
    if is_group ts then after_bracket (drop 1 ts)
    else if is_call ts then after_bracket (drop 2 ts)
    else drop 1 ts

-- the tokens before that
abbrev pub primary_of : List Token → List Token
primary_of ts = take (length ts - length (suffix_of ts)) ts

-- `carry` and its like, whose arguments have one size
abbrev pub is_carry : (name : List ℕ) → Bool
is_carry name = bytes_eq name (codes "carry") || (bytes_eq name (codes "scarry") || bytes_eq name (codes "sborrow"))

-- functions of one value whose result may have any size
abbrev pub is_function : (name : List ℕ) → Bool
is_function name =
    bytes_eq name (codes "zext") || (bytes_eq name (codes "sext")
    || (bytes_eq name (codes "popcount") || bytes_eq name (codes "lzcount")))

abbrev pub gives_any : Scope → (name : List ℕ) → Bool
gives_any s name = is_function name || is_operation (kind_of s.item name)

-- a name by itself
abbrev pub name_value : Scope → List Token → Value
name_value s ts = record {
  width = named s (text_at ts 0);
  extent = extent_of (take 1 ts);
  is_given = is_parameter s.item (text_at ts 0);
}

-- the value without so many low bytes
abbrev pub dropped_width : Width → (count : ℕ) → Width
dropped_width (width.Bytes size) count = if nat_lt count size then width.Bytes (size - count) else width.Untold
dropped_width width.Number count = width.Untold
dropped_width width.Open count = width.Untold
dropped_width width.Untold count = width.Untold

abbrev pub dropped : Value → (count : ℕ) → Value
dropped v count = with_width v (dropped_width v.width count)

-- `NAME(..)`: a function, a user operation, or a name whose low bytes are dropped
abbrev pub call_value : Scope → List Token → Value
call_value s ts =
    if is_carry (text_at ts 0) then value_with ts (width.Bytes 1)
    else if gives_any s (text_at ts 0) then open_value (primary_of ts)
    else dropped (name_value s ts) (number_after ts 0 2)

abbrev pub primary_value : Scope → List Token → (inner : Value) → Value
primary_value s ts inner =
    if is_group ts then loosened inner
    else if is_call ts then call_value s ts
    else if is_word_at ts 0 then name_value s ts
    else if has_kind is_integer (slice_get ts 0) then value_with ts width.Number
    else value_with ts width.Untold

-- `:n` keeps n bytes, `[l,c]` takes c bits, `(n)` drops n bytes
abbrev pub suffixed : (suffix : List Token) → Value → Value
suffixed suffix v =
    if length suffix == 0 then v
    else if has_here suffix 0 (codes ":") then with_width v (told (number_after suffix 0 1))
    else if has_here suffix 0 (codes "[") then with_width v (told (bit_bytes (number_after suffix 0 3)))
    else dropped v (number_after suffix 0 1)

abbrev pub loaded_width : (size : ℕ) → Width
loaded_width size = if size == 0 then width.Open else width.Bytes size

-- a star form whose size isn't written may have any
abbrev pub loaded : List Token → Value
loaded ts = with_width (open_value ts) (loaded_width (star_size ts))

abbrev pub single : Scope → List Token → (inner : Value) → Value
single s ts inner =
    if is_minus ts then loosened inner
    else if is_not ts then with_width inner (width.Bytes 1)
    else if is_star ts then loaded ts
    else suffixed (suffix_of ts) (primary_value s ts inner)

-- ---- expressions

abbrev pub value_by : (List Token → Value) → Scope → List Token → Option ℕ → Value
value_by value s ts None = single s ts (value (inside ts))
value_by value s ts (Some m) = combined (class_of (text_at ts m)) (value (take m ts)) (value (beyond m ts))

-- the value of an expression with at most so many operators and brackets in one another
unfoldable pub value_in : (depth : ℕ) → Scope → List Token → Value
value_in zero s ts = value_with ts width.Untold
value_in (suc depth) s [] = value_with [] width.Untold
value_in (suc depth) s (t ∷ ts) = value_by (value_in depth s) s (t ∷ ts) (main_of (t ∷ ts))

-- An expression has at most 256 operators and opening brackets.
abbrev pub most_depth : ℕ
most_depth = 300

-- the value of an expression
unfoldable pub value_of : Scope → List Token → Value
value_of s ts = value_in most_depth s ts
