use Rattle.sl_tool.proofs.GapLemmas.{table_written, tables_written}
use Rattle.sl_tool.proofs.report.push_tables.Goals as goal

pub gaps-preserved : goal.gaps-preserved
gaps-preserved c =
    table_written c.args.t.now c.args.gaps.now c.args.out.now.items c.gaps.out.items c.push_table.new.out.items c.gaps.table _ c.gaps-test.true
    c.in_ok-push_table.ensures c.gaps.invariant

pub returns : goal.returns
returns c = tables_written c.args.t.now c.args.gaps.now c.args.out.now.items c.gaps.out.items c.gaps.table c.gaps-test.false c.gaps.invariant
