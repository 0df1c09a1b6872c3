-- meaning: how numbers are shown (SLEIGH manual, "The Display Section", and "dec" among the
-- attributes of fields).
use Rattle.std.specs.Prelude.{ℕ, suc, ℤ, pos, negsuc, Bool, false, List, ◌++◌, codes}
use Rattle.std.specs.Prelude.{if◌then◌else◌}
use Rattle.std.specs.Fmt.{digits, signed_decimal}

-- `0x` and hexadecimal digits without leading zeros, `-0x` and those of the magnitude below 0
abbrev pub hex_text : ℤ → List ℕ
hex_text (pos n) = codes "0x" ++ digits 16 false n
hex_text (negsuc n) = codes "-0x" ++ digits 16 false (suc n)

-- a number, in decimal for a `dec` field
abbrev pub number_text : Bool → ℤ → List ℕ
number_text dec n = if dec then signed_decimal n else hex_text n
