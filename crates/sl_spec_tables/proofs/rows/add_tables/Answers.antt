use Rattle.std.proofs.Common.{◌++◌, ap, ◌∙◌}
use Rattle.sl_spec_rules.proofs.Gathers.{all_gathered, gathers}
use Rattle.sl_spec.specs.Tables.{Operand}
use Rattle.sl_spec_tables.specs.Rows.{table_of}
use Rattle.sl_spec_tables.proofs.rows.add_tables.Goals as goal

pub operands-preserved : goal.operands-preserved
operands-preserved c =
    gathers (λ o. table_of o.means) c.args.all.now.items c.args.operands.now c.operands.all.items c.add_table.new.all.items c.operands.operand-index c.operand-item.result c.operands-test.true c.operand-item.is
    (c.in_ok-add_table.ensures ∙ ap (λ (o : Operand). c.operands.all.items ++ table_of o.means) c.operand.view_is) c.operands.invariant

pub returns : goal.returns
returns c = all_gathered (λ o. table_of o.means) c.args.all.now.items c.args.operands.now c.operands.all.items c.operands.operand-index c.operands-test.false c.operands.invariant
