-- step: codes of a field, and how many have entries.
use Rattle.std.specs.Prelude.{ℕ, Option, None, Some, length}
use Rattle.sl_asm_bits.specs.Known.{Has}
use Rattle.sl_asm_bits.specs.declared.Known.{Known}
use Rattle.sl_spec.specs.Tables.{Entries, registers, texts, values}

-- how many entries there are
abbrev pub entries_count : Entries → ℕ
entries_count (registers ids) = length ids
entries_count (texts names) = length names
entries_count (values numbers) = length numbers

-- The code has the bits that are known; there may be none.
abbrev pub HasCode : Option Known → ℕ → Type 0
HasCode None code = ⊥
HasCode (Some k) code = Has k code
