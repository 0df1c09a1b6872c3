-- meaning: classes of bytes, and numbers spelled by digits.
use Rattle.std.specs.Prelude.{ℕ, ◌+◌, ◌-◌, ◌*◌, ◌==◌, ◌&&◌, ◌||◌, Bool, not, List, [], ◌∷◌, nat_le, if◌then◌else◌}
use Rattle.std.specs.List.{list_any}

abbrev pub is_among : List ℕ → ℕ → Bool
is_among bytes b = list_any (λ c. b == c) bytes

abbrev pub is_between : ℕ → ℕ → ℕ → Bool
is_between low high b = nat_le low b && nat_le b high

-- space, tab, carriage return or line feed
abbrev pub is_blank : ℕ → Bool
is_blank = is_among (32 ∷ 9 ∷ 13 ∷ 10 ∷ [])

abbrev pub is_line_end : ℕ → Bool
is_line_end b = b == 10

abbrev pub is_quote : ℕ → Bool
is_quote b = b == 34

-- `#`, which begins a comment
abbrev pub is_hash : ℕ → Bool
is_hash b = b == 35

abbrev pub is_caret : ℕ → Bool
is_caret b = b == 94

abbrev pub is_digit : ℕ → Bool
is_digit b = is_between 48 57 b

abbrev pub is_binary_digit : ℕ → Bool
is_binary_digit b = is_between 48 49 b

-- in either case
abbrev pub is_hex_digit : ℕ → Bool
is_hex_digit b = is_digit b || is_between 65 70 b || is_between 97 102 b

-- a letter or `_`
abbrev pub is_letter : ℕ → Bool
is_letter b = is_between 65 90 b || is_between 97 122 b || b == 95

-- a letter, `_` or a dot
abbrev pub begins_word : ℕ → Bool
begins_word b = is_letter b || b == 46

-- what a word goes on with
abbrev pub is_word_byte : ℕ → Bool
is_word_byte b = begins_word b || is_digit b

-- what stands in a comment
abbrev pub is_comment_byte : ℕ → Bool
is_comment_byte b = not (is_line_end b)

-- what stands between quotes
abbrev pub is_text_byte : ℕ → Bool
is_text_byte b = is_between 32 126 b && not (is_quote b)

-- a byte that stands by itself in a display: it is printed, and begins nothing else there
abbrev pub is_char : ℕ → Bool
is_char b = is_between 33 126 b && not (is_quote b) && not (is_caret b) && not (begins_word b)

-- what a digit counts, in bases up to sixteen
abbrev pub digit_value : ℕ → ℕ
digit_value d = if is_digit d then d - 48 else if is_between 97 102 d then d - 87 else d - 55

-- the number that digits spell after those that spelled the number so far
abbrev pub number_after : ℕ → ℕ → List ℕ → ℕ
number_after base so_far [] = so_far
number_after base so_far (d ∷ ds) = number_after base (base * so_far + digit_value d) ds

-- the number that digits spell in a base
abbrev pub number : ℕ → List ℕ → ℕ
number base digits = number_after base 0 digits
