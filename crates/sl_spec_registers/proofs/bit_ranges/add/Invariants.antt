use Rattle.std.proofs.Common.{◌≡◌, true, drop, map}
use Rattle.sl_ast.specs.Views.{bit_range_of as seen}
use Rattle.sl_spec_rules.specs.Names.{differ_behind}
use Rattle.sl_spec_registers.specs.RegisterRules.{bit_range_names, bit_range_of}
use Rattle.sl_spec_registers.proofs.FreshLemmas.{AreMade}
use Rattle.sl_spec_registers.proofs.bit_ranges.add.Given as goal

abbrev pub invariant-places : goal.invariant-places
invariant-places l = record {
  made : AreMade (bit_range_of l.registers) l.initial.bitranges (map seen l.given) l.bitranges l.index;
  left : differ_behind (map (λ r. r.name) l.bitranges) (bit_range_names (drop l.index (map seen l.given))) ≡ true;
}
