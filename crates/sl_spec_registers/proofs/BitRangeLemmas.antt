-- Bit ranges that pass rule 8 lie within 128 bits.
use Rattle.std.proofs.Common.{◌≡◌, ℕ, ◌+◌, ◌≤◌, ◌<◌, true, List, length, get_or, arith}
use Rattle.std.specs.Prelude.{nat_le, Option, Some, None}
use Rattle.std.specs.List.{list_all}
use Rattle.std.proofs.lemmas.Bool.{leb-true}
use Rattle.sl_ast.specs.Trees.{BitRange}
use Rattle.sl_spec.specs.Named.{named}
use Rattle.sl_spec.specs.Tables.{Register}
use Rattle.sl_spec_registers.proofs.BoolLemmas.{all_at, and_parts}
use Rattle.sl_spec_registers.specs.Bits.{bits_in}
use Rattle.sl_spec_registers.specs.RegisterRules.{is_bit_range, lies_in}

ends_within : (r : Option Register) (low count : ℕ) → lies_in r low count ≡ true → low + count ≤ bits_in r
ends_within None low count h = absurd (cc)
ends_within (Some r) low count h = leb-true (low + count) (bits_in (Some r)) (and_parts (nat_le 1 count) (nat_le (low + count) (bits_in (Some r))) h).1

small : (low count bits n : ℕ) → low + count ≤ bits → n ≡ bits → n ≤ 128 → (low ≤ 128) × (count ≤ 128)
small low count bits n within is most = (omega arith, omega arith)

pub range_is_small : (registers : List Register) (rs : List BitRange) (i : ℕ) (r : BitRange) → i < length rs → r ≡ get_or rs i r → list_all (is_bit_range registers) rs ≡ true
    → (n : ℕ) → n ≡ bits_in (named (λ x. x.name) r.register registers) → n ≤ 128 → (r.low ≤ 128) × (r.count ≤ 128)
range_is_small registers rs i r below at within n is most =
    let there = named (λ x. x.name) r.register registers in
    small r.low r.count (bits_in there) n (ends_within there r.low r.count (all_at (is_bit_range registers) rs i r below at within)) is most
