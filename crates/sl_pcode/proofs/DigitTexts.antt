-- Digits in hexadecimal are a text.
use Rattle.std.proofs.Common.{◌≡◌, ◌∷◌, [], List, Bool, true, ℕ, refl}
use Rattle.std.specs.Prelude.{nat_lt}
use Rattle.std.specs.List.{list_all}
use Rattle.std.specs.Str.{IsAscii, IsUtf8}
use Rattle.std.proofs.lemmas.Bool.{and_parts, ltb-true}
use Rattle.std.proofs.lemmas.Str.{IsUtf8-from_ascii}
use Rattle.std.proofs.lemmas.Str.Ascii.{IsAscii-cons, IsAscii-nil}
use Rattle.hex.specs.Hex.{encode_lower, lower_digits}
use Rattle.hex.proofs.HexLemmas.{IsAscii-encode_with}

-- A list of bytes is ASCII where each of them passes a test that computes.
abbrev is_ascii_byte : ℕ → Bool
is_ascii_byte b = nat_lt b 128

IsAscii-from_test : (bytes : List ℕ) → list_all is_ascii_byte bytes ≡ true → IsAscii bytes
IsAscii-from_test [] h = IsAscii-nil
IsAscii-from_test (b ∷ bytes) h =
    let both = and_parts (is_ascii_byte b) (list_all is_ascii_byte bytes) h in
    IsAscii-cons b bytes (ltb-true b 128 both.0) (IsAscii-from_test bytes both.1)

pub IsUtf8-encode_lower : (bytes : List ℕ) → IsUtf8 (encode_lower bytes)
IsUtf8-encode_lower bytes =
    let digits = IsAscii-from_test lower_digits refl in
    IsUtf8-from_ascii _ (IsAscii-encode_with lower_digits bytes digits)
