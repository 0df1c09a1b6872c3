-- meaning: an image as hexadecimal text
use Rattle.std.specs.Prelude.{ℕ, List, Option, Bool, ◌==◌, ◌||◌, not, filter}
use Rattle.std.specs.Result.{result_ok}
use Rattle.hex.specs.Hex.{decode_of}

-- A space, a tab, a carriage return or a line feed.
abbrev pub is_blank : ℕ → Bool
is_blank b = b == 32 || (b == 9 || (b == 13 || b == 10))

-- The bytes that two digits each spell, without regard to blanks, if the text spells bytes.
abbrev pub image_of : List ℕ → Option (List ℕ)
image_of text = result_ok (decode_of (filter (λ b. not (is_blank b)) text))
