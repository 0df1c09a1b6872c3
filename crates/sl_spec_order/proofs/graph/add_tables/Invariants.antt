use Rattle.std.proofs.Common.{◌≡◌, ◌++◌, take}
use Rattle.sl_spec_order.specs.Orders.{tables_in}
use Rattle.sl_spec_order.proofs.graph.add_tables.Given as goal

abbrev pub invariant-operands : goal.invariant-operands
invariant-operands l = l.all.items ≡ l.initial.all.items ++ tables_in (take l.operand-index l.operands)
