-- meaning: parts of a row of tokens, by the brackets and commas in it, and the bytes that they have in the text.
use Rattle.std.specs.Prelude.{ℕ, ◌+◌, ◌-◌, ◌^◌, ◌==◌, ◌&&◌, ◌||◌, Bool, List, [], ◌∷◌, codes, drop, length, min, take}
use Rattle.std.specs.Prelude.{Option, Some, None, if◌then◌else◌, slice_get}
use Rattle.std.specs.Str.{bytes_eq}
use Rattle.sl_explain_names.specs.Names.{steps_to}
use Rattle.sl_explain_sizes.specs.declared.slices.Extent.{Extent}
use Rattle.sl_lex.specs.Reading.{Token}

abbrev pub opens : (text : List ℕ) → Bool
opens text = bytes_eq text (codes "(") || bytes_eq text (codes "[")

abbrev pub closes : (text : List ℕ) → Bool
closes text = bytes_eq text (codes ")") || bytes_eq text (codes "]")

-- how many brackets are open after a token
abbrev pub level_after : (level : ℕ) → (text : List ℕ) → ℕ
level_after level text = if opens text then level + 1 else if closes text then level - 1 else level

abbrev pub stops : (stop : List ℕ) → (level : ℕ) → (text : List ℕ) → Bool
stops stop level text = (level == 0) && bytes_eq text stop

-- how many of these tokens stand before the first one with these bytes that is in no bracket, where so many are open
abbrev pub outside_from : (stop : List ℕ) → (level : ℕ) → List Token → ℕ
outside_from stop level [] = 0
outside_from stop level (t ∷ ts) =
    if stops stop level t.text then 0 else 1 + outside_from stop (level_after level t.text) ts

abbrev pub outside : (stop : List ℕ) → List Token → ℕ
outside stop ts = outside_from stop 0 ts

-- what stands after so many tokens and one more
abbrev pub beyond : (count : ℕ) → List Token → List Token
beyond count ts = drop 1 (drop count ts)

-- the tokens before the bracket that closes, where they begin in it, and those behind it
abbrev pub in_bracket : List Token → List Token
in_bracket ts = take (outside (codes ")") ts) ts

abbrev pub after_bracket : List Token → List Token
after_bracket ts = beyond (outside (codes ")") ts) ts

-- the tokens before the first one with these bytes
abbrev pub up_to : (stop : List ℕ) → List Token → List Token
up_to stop ts = take (steps_to stop ts) ts

-- ---- bytes

abbrev pub first_byte : Option Token → ℕ
first_byte None = 0
first_byte (Some t) = t.from

abbrev pub end_byte : Option Token → ℕ
end_byte None = 0
end_byte (Some t) = min (t.from + length t.text) (2 ^ 64 - 1)

-- from the first byte of the first token to the last one of the last
abbrev pub extent_of : List Token → Extent
extent_of ts = record {
  byte = first_byte (slice_get ts 0);
  width = end_byte (slice_get ts (length ts - 1)) - first_byte (slice_get ts 0);
}
