-- step: the constructors of a text where no table reaches itself, with what is reckoned of them once.
use Rattle.std.specs.Prelude.{◌≡◌, length}
use Rattle.sl_base_graphs.specs.Orders.{IsOrder}
use Rattle.sl_spec_tables.specs.BlockLengths.{AreMeasured, AreMeasuredGroups}
use Rattle.sl_spec_tables.specs.Rows as all
use Rattle.sl_spec_tables.specs.Rows.{graph}
use Rattle.sl_spec_tables.specs.Views.{groups_of, rows_of}
use Rattle.sl_spec_tables.specs.declared.judge.Ordered.{Ordered}

-- The bytes of blocks are those of their patterns, the groups are those of the constructors, and each
-- table comes after those that its constructors name.
pub record IsOrdered (x : Ordered) : Type 0 where
  pub groups : AreMeasuredGroups x.t.now x.made.now x.groups.now
  pub rows : AreMeasured x.t.now x.made.now x.rows.now
  pub order : IsOrder (graph (groups_of x.groups.now)) x.order.now
  pub grouped : groups_of x.groups.now ≡ all.groups (length x.t.now.tables) (rows_of x.rows.now)
