use Rattle.std.proofs.Common.{[]}
use Rattle.sl_spec_order.specs.Steps.{IsGraphOf}
use Rattle.sl_spec_order.proofs.graph.empty_lists.Given as goal

abbrev pub invariant-lists : goal.invariant-lists
invariant-lists l = IsGraphOf l._index [] l.lists.items
