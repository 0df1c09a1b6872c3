-- law: that no table reaches itself, by what the operands of constructors mean.
use Rattle.std.specs.Prelude.{◌≡◌, ◌≤◌, List, None, length}
use Rattle.sl_ast.specs.Trees.{Constructor}
use Rattle.sl_ast.specs.Unfolding.{Placed}
use Rattle.sl_base_graphs.specs.Orders.{NoneReaches}
use Rattle.sl_spec_order.specs.Orders.{graph}
use Rattle.sl_spec.specs.declared.tables.Tables.{Tables}
use Rattle.sl_spec_tables.specs.TableRules.{late_fault}

-- Where rules 32 to 37 hold of tables and of all their constructors as they are written, no table
-- reaches itself, so that there is an order in which tables are shaped.
abbrev pub NoTableReachesItself : Type 0
NoTableReachesItself = (t : Tables) (constructors : List (Placed Constructor))
    → length t.constructors ≤ length constructors → late_fault t constructors ≡ None
    → NoneReaches (graph (length t.tables) t.constructors)
