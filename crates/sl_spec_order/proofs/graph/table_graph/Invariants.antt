use Rattle.std.proofs.Common.{take}
use Rattle.sl_spec_order.specs.Steps.{IsGraphOf}
use Rattle.sl_spec_order.proofs.graph.table_graph.Given as goal

abbrev pub invariant-ctors : goal.invariant-ctors
invariant-ctors l = IsGraphOf l.count (take l.index l.ctors) l.lists.items
