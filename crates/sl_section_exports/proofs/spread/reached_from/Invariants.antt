use Rattle.std.proofs.Common.{take}
use Rattle.sl_base_graphs.specs.Views.{graph_of}
use Rattle.sl_section_exports.specs.Spreads.{IsSpread, none_open}
use Rattle.sl_section_exports.proofs.spread.reached_from.Given as goal

abbrev pub invariant-starts : goal.invariant-starts
invariant-starts l = IsSpread (graph_of l.graph) l.starts (take l.index l.starts) none_open l.spread.marks.items l.spread.stack.items

abbrev pub invariant-rounds : goal.invariant-rounds
invariant-rounds l = IsSpread (graph_of l.graph) l.starts l.starts none_open l.spread.marks.items l.spread.stack.items
