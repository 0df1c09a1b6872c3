-- meaning: the line of a byte, what is shown of it, and the carets under a token.
use Rattle.std.specs.Prelude.{ℕ, ◌+◌, ◌-◌, ◌==◌, ◌&&◌, ◌||◌, Bool, List, [], ◌++◌, codes, drop, length, map}
use Rattle.std.specs.Prelude.{max, min, nat_le, nat_lt, not, replicate, reverse, take, if◌then◌else◌}
use Rattle.std.specs.List.{prefix_len}

-- ---- lines

abbrev pub is_in_line : ℕ → Bool
is_in_line b = not (b == 10)

-- how many bytes of its line stand before this byte of a text
abbrev pub before : List ℕ → ℕ → ℕ
before text byte = prefix_len is_in_line (reverse (take byte text))

-- how many stand from it on, up to the line's end
abbrev pub after : List ℕ → ℕ → ℕ
after text byte = prefix_len is_in_line (drop byte text)

-- the line of this byte, without its end
abbrev pub line_of : List ℕ → ℕ → List ℕ
line_of text byte = take (before text byte + after text byte) (drop (byte - before text byte) text)

-- ---- what is shown

-- A tab and a carriage return are blanks, 0x20 to 0x7e stand for themselves, and any other byte is `?`.
abbrev pub shown_byte : ℕ → ℕ
shown_byte b = if (b == 9) || (b == 13) then 32 else if nat_le 32 b && nat_le b 126 then b else 63

-- at most so many bytes, and two dots where there are more
abbrev pub shown_up_to : (most : ℕ) → List ℕ → List ℕ
shown_up_to most bytes = map shown_byte (take most bytes) ++ (if nat_lt most (length bytes) then codes ".." else [])

-- how many bytes of a line are shown at most
abbrev pub most : ℕ
most = 90

-- The first byte that is shown of a line of so many bytes, for a token at this one: the line's first, unless the token is far
-- from it.
abbrev pub begins : (bytes at : ℕ) → ℕ
begins bytes at = if nat_le bytes most || nat_lt at 60 then 0 else at - 30

abbrev pub excerpt : List ℕ → (at : ℕ) → List ℕ
excerpt line at = map shown_byte (take most (drop (begins (length line) at) line))

-- one caret for each byte of the token that is shown, and one at least
abbrev pub under : (bytes at width : ℕ) → List ℕ
under bytes at width = replicate (max (min width (most - (at - begins bytes at))) 1) 94

abbrev pub carets : (bytes at width : ℕ) → List ℕ
carets bytes at width = replicate (at - begins bytes at) 32 ++ under bytes at width
