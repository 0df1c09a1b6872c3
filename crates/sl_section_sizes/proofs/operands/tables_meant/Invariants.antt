use Rattle.std.proofs.Common.{◌≡◌, take}
use Rattle.sl_section_sizes.specs.Rows.{tables_meant}
use Rattle.sl_section_sizes.proofs.operands.tables_meant.Given as goal

abbrev pub invariant-operands : goal.invariant-operands
invariant-operands l = l.tables.items ≡ tables_meant (take l.operand-index l.operands)
