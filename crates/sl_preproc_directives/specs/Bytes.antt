-- meaning: classes of bytes: blanks, and what names have.
use Rattle.std.specs.Prelude.{ℕ, ◌==◌, ◌&&◌, ◌||◌, Bool, not, nat_le}

abbrev pub is_between : ℕ → ℕ → ℕ → Bool
is_between low high b = nat_le low b && nat_le b high

-- space, tab or carriage return
abbrev pub is_blank : ℕ → Bool
is_blank b = b == 32 || b == 9 || b == 13

-- a letter or `_`, which begins a name
abbrev pub is_letter : ℕ → Bool
is_letter b = is_between 65 90 b || is_between 97 122 b || b == 95

-- what a name goes on with
abbrev pub is_name_byte : ℕ → Bool
is_name_byte b = is_letter b || is_between 48 57 b

-- what stands inside a quoted text
abbrev pub is_inside : ℕ → Bool
is_inside b = not (b == 34)

-- what a value without quotes is made of: no blanks, no quote, no `#`
abbrev pub is_value_byte : ℕ → Bool
is_value_byte b = not (is_blank b || b == 34 || b == 35)

-- what stands on one line
abbrev pub is_on_line : ℕ → Bool
is_on_line b = not (b == 10)
