use Rattle.std.proofs.Common.{◌≡◌, ◌++◌, drop}
use Rattle.sl_spec_rules.specs.Gathered.{gathered}
use Rattle.sl_section_exports.specs.Exports.{operand_tables}
use Rattle.sl_section_exports.specs.Views.{row_of}
use Rattle.sl_section_exports.proofs.handing.add_assigned.Given as goal

-- what is there and what the operands that are left give is all
abbrev pub invariant-operands : goal.invariant-operands
invariant-operands l =
    let tables = operand_tables (row_of l.of).0.0 in
    l.tables.items ++ gathered tables (drop l.index l.operands) ≡ l.initial.tables.items ++ gathered tables l.operands
