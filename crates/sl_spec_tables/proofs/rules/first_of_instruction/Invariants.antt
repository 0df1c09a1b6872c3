use Rattle.std.proofs.Common.{◌≡◌, drop}
use Rattle.sl_spec_tables.specs.Rows.{is_of}
use Rattle.sl_spec_tables.specs.TableRules.{first_place}
use Rattle.sl_spec_tables.specs.Views.{rows_of}
use Rattle.sl_spec_tables.proofs.rules.first_of_instruction.Given as goal

abbrev pub invariant-rows : goal.invariant-rows
invariant-rows l = first_place (is_of 0) (drop l.index (rows_of l.rows)) ≡ first_place (is_of 0) (rows_of l.rows)
