use Rattle.sl_spec_rules.proofs.Gathers.{IsGathered}
use Rattle.sl_spec_tables.specs.Rows.{table_of}
use Rattle.sl_spec_tables.proofs.rows.add_tables.Given as goal

abbrev pub invariant-operands : goal.invariant-operands
invariant-operands l = IsGathered (λ o. table_of o.means) l.initial.all.items l.operands l.all.items l.operand-index
