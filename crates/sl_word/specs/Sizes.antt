-- meaning: the sizes of addresses as numbers.
use Rattle.std.specs.Prelude.{ℕ, List, map}
use Rattle.sl_word.specs.declared.word.AddressSize.{AddressSize}

-- How many bytes an address has, size by size.
abbrev pub byte_counts : List AddressSize → List ℕ
byte_counts sizes = map (λ size. size.bytes) sizes
