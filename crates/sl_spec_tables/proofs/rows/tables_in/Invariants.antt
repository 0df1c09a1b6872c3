use Rattle.std.proofs.Common.{[]}
use Rattle.sl_spec_rules.proofs.Gathers.{IsGathered}
use Rattle.sl_spec_tables.specs.Rows.{tables_of}
use Rattle.sl_spec_tables.specs.Views.{rows_of}
use Rattle.sl_spec_tables.proofs.rows.tables_in.Given as goal

abbrev pub invariant-rows : goal.invariant-rows
invariant-rows l = IsGathered (λ r. tables_of r.0) [] (rows_of l.rows) l.all.items l.index
