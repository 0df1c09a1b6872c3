-- meaning: lines of a listing.
use Rattle.std.specs.Prelude.{ℕ, ◌-◌, List, ◌++◌, codes, drop, replicate, take}
use Rattle.std.specs.Int.{w64, to_be_bytes}
use Rattle.hex.specs.Hex.{encode_lower}

-- an address of so many bytes, in hexadecimal
abbrev pub address_text : ℕ → ℕ → List ℕ
address_text address_bytes address =
    encode_lower (drop (8 - address_bytes) (to_be_bytes w64 address))

-- the address, the bytes that are shown, and the text
abbrev pub listed_line : ℕ → ℕ → List ℕ → List ℕ → List ℕ
listed_line address_bytes address shown text = address_text address_bytes address
    ++ (codes ": " ++ (encode_lower shown ++ (codes " " ++ (text ++ codes "\n"))))

-- so many bytes from this place of the image, which zeros follow
abbrev pub bytes_at : List ℕ → ℕ → ℕ → List ℕ
bytes_at image at count = take count (drop at image ++ replicate count 0)
