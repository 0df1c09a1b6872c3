use Rattle.std.proofs.Common.{ℕ, [], List, get_or}
use Rattle.std.specs.Prelude.{slice_get}
use Rattle.sl_spec_rules.proofs.Gathers.{all_gathered, gathers}
use Rattle.sl_section_sizes.specs.Ordering.{below, numbers_of}
use Rattle.sl_spec.specs.declared.tables.Tables.{Tables}
use Rattle.sl_spec_tables.proofs.PositionLemmas.{read_alike}
use Rattle.sl_section_sizes.proofs.order.numbers.Goals as goal

abbrev of_table : Tables → ℕ → ℕ → List ℕ
of_table t count v = below count (numbers_of (slice_get t.tables v))

pub tables-preserved : goal.tables-preserved
tables-preserved c =
    let vs = c.args.tables.now in
    let i = c.tables.index in
    let v : ℕ = get_or vs i 0 in
    gathers (of_table c.args.t.now c.args.count) [] vs c.tables.all.items c.add_table.new.all.items i v c.tables-test.true
    (read_alike vs i 0 v c.tables-test.true) c.in_ok-add_table.ensures c.tables.invariant

pub returns : goal.returns
returns c = all_gathered (of_table c.args.t.now c.args.count) [] c.args.tables.now c.tables.all.items c.tables.index c.tables-test.false c.tables.invariant
