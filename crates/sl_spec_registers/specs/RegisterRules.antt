-- meaning: registers and bit ranges, rules 6 to 8 (SLEIGH manual, "Naming Registers" and "Bit Range
-- Registers").
use Rattle.std.specs.Prelude.{ℕ, ◌+◌, ◌*◌, ◌^◌, ◌&&◌, Bool, false, not, nat_le, unwrap_or, filter}
use Rattle.std.specs.Prelude.{List, [], ◌∷◌, ◌++◌, length, map, Option, Some, None, codes, Result}
use Rattle.std.specs.Prelude.{if◌then◌else◌}
use Rattle.std.specs.List.{list_all}
use Rattle.std.specs.Str.{bytes_eq}
use Rattle.sl_ast.specs.Trees as tree
use Rattle.sl_spec_rules.specs.Demands.{Demand, judged}
use Rattle.sl_spec_rules.specs.Names.{Name}
use Rattle.sl_spec.specs.Named.{has_name, index_named, named}
use Rattle.sl_spec.specs.Tables.{BitRange, Register, Space}
use Rattle.sl_spec.specs.declared.tables.Tables.{Tables}
use Rattle.sl_spec_registers.specs.NewNames.{are_new}

-- ---- registers

abbrev pub is_skipped : Name → Bool
is_skipped name = bytes_eq name (codes "_")

-- the names that are given to registers; `_` gives none
abbrev pub given_names : List Name → List Name
given_names names = filter (λ name. not (is_skipped name)) names

-- 6: registers lie in a defined space and have size 1 to 16
abbrev pub has_space_and_size : Tables → Name → ℕ → Bool
has_space_and_size t space size =
    has_name (λ s. s.name) space t.spaces && (nat_le 1 size && nat_le size 16)

-- 7: offset + size times places is at most 256^n, where an address of the space has n bytes
abbrev pub ends_within : Option Space → ℕ → ℕ → ℕ → Bool
ends_within None offset size places = false
ends_within (Some s) offset size places = nat_le (offset + size * places) (256 ^ s.size)

abbrev pub register_demands : Tables → Name → ℕ → ℕ → List Name → List Demand
register_demands t space offset size names =
    (3, are_new t (given_names names)) ∷ (6, has_space_and_size t space size)
    ∷ (7, ends_within (named (λ s. s.name) space t.spaces) offset size (length names)) ∷ []

-- the registers that are laid one behind the other from an offset on; `_` skips a place
unfoldable pub laid : ℕ → ℕ → ℕ → List Name → List Register
laid space offset size [] = []
laid space offset size (name ∷ names) =
    if is_skipped name then laid space (offset + size) size names
    else record { name = name; space = space; offset = offset; size = size }
    ∷ laid space (offset + size) size names

abbrev pub with_registers : Tables → List Register → Tables
with_registers t rs = record t { registers = t.registers ++ rs }

abbrev pub register_step : Tables → Name → ℕ → ℕ → List Name → Result Tables ℕ
register_step t space offset size names = judged (register_demands t space offset size names)
    (with_registers t (laid (unwrap_or (index_named (λ s. s.name) space t.spaces) 0) offset size names))

-- ---- bit ranges

abbrev pub lies_in : Option Register → ℕ → ℕ → Bool
lies_in None low count = false
lies_in (Some r) low count = nat_le 1 count && nat_le (low + count) (8 * r.size)

-- 8: a bit range's register is defined, its count is at least 1, lsb + count is at most 8 times the
-- size
abbrev pub is_bit_range : List Register → tree.BitRange → Bool
is_bit_range registers r = lies_in (named (λ x. x.name) r.register registers) r.low r.count

abbrev pub bit_range_names : List tree.BitRange → List Name
bit_range_names rs = map (λ r. r.name) rs

abbrev pub bit_range_demands : Tables → List tree.BitRange → List Demand
bit_range_demands t rs =
    (3, are_new t (bit_range_names rs)) ∷ (8, list_all (is_bit_range t.registers) rs) ∷ []

abbrev pub bit_range_of : List Register → tree.BitRange → BitRange
bit_range_of registers r = record {
  name = r.name;
  register = unwrap_or (index_named (λ x. x.name) r.register registers) 0;
  low = r.low;
  count = r.count;
}

abbrev pub with_bit_ranges : Tables → List BitRange → Tables
with_bit_ranges t rs = record t { bitranges = t.bitranges ++ rs }

abbrev pub bit_range_step : Tables → List tree.BitRange → Result Tables ℕ
bit_range_step t rs =
    judged (bit_range_demands t rs) (with_bit_ranges t (map (bit_range_of t.registers) rs))
