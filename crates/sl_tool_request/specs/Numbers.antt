-- meaning: the numbers of a command line, as words spell them
use Rattle.std.specs.Prelude.{ℕ, ◌^◌, ℤ, pos, neg_ℤ, List, length, drop, Option, Some, None}
use Rattle.std.specs.Prelude.{Bool, false, [], ◌∷◌, ◌==◌, ◌&&◌, nat_eq, nat_lt, nat_le, codes}
use Rattle.std.specs.Prelude.{if◌then◌else◌}
use Rattle.std.specs.Char.{digit_value}
use Rattle.std.specs.List.{list_all, starts_with}
use Rattle.std.specs.Option.{option_map, option_and_then}
use Rattle.std.specs.Str.Parse.{digits_value}

-- A plus (43) stands first.
abbrev pub begins_with_plus : List ℕ → Bool
begins_with_plus [] = false
begins_with_plus (c ∷ cs) = c == 43

abbrev pub is_numeral : ℕ → List ℕ → Bool
is_numeral radix digits =
    nat_lt 0 (length digits) && list_all (λ c. nat_lt (digit_value c) radix) digits

-- The number that the digits spell, of which there is one at least, if it is below 2^64.
abbrev pub numeral : ℕ → List ℕ → Option ℕ
numeral radix digits = if is_numeral radix digits && nat_lt (digits_value radix digits) (2 ^ 64)
    then Some (digits_value radix digits) else None

-- A number: decimal digits, or `0x` and hexadecimal digits.
unfoldable pub number_of : List ℕ → Option ℕ
number_of word =
    if starts_with nat_eq word (codes "0x") then numeral 16 (drop 2 word) else numeral 10 word

-- The number below zero, if it is -2^63 or above.
abbrev pub negative : ℕ → Option ℤ
negative n = if nat_le n (2 ^ 63) then Some (neg_ℤ (pos n)) else None

-- The value of a context field: a number, or one with `-` before it.
unfoldable pub value_of : List ℕ → Option ℤ
value_of word = if starts_with nat_eq word (codes "-")
    then option_and_then negative (number_of (drop 1 word)) else option_map pos (number_of word)
