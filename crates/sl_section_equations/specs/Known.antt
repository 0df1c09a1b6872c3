-- view: what is known of sizes outside a section.
use Rattle.std.specs.Prelude.{ℕ, List, Option, map, option_map}
use Rattle.sl_section_flat.specs.Chains.{bytes_of}
use Rattle.sl_word.specs.Sizes.{byte_counts}
use Rattle.sl_word.specs.declared.word.Size.{Size}
use Rattle.sl_section_equations.specs.declared.known.KnownSizes.{KnownSizes}
use Rattle.sl_section_equations.specs.SizesIn.{address_in, size_in}

abbrev pub exports_of : List (Option Size) → List (Option ℕ)
exports_of sizes = map (option_map bytes_of) sizes

-- the size of the addresses of a space
abbrev pub address_size : KnownSizes → Option ℕ → ℕ
address_size known = address_in (byte_counts known.spaces.now) known.default.bytes

-- the size of what an operand exports
abbrev pub operand_size : KnownSizes → ℕ → Option ℕ
operand_size known = size_in (exports_of known.operands.now)
