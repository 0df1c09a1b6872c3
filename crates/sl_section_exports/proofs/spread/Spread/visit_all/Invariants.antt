use Rattle.std.proofs.Common.{◌≡◌, ◌<◌, ℕ, List, get_or}
use Rattle.sl_base_graphs.specs.Views.{graph_of}
use Rattle.sl_section_exports.specs.Spreads.{Follows, IsMarked, IsSpread}
use Rattle.sl_section_exports.proofs.SpreadLemmas.{Visiting}
use Rattle.sl_section_exports.proofs.spread.Spread.visit_all.Given as goal

abbrev pub invariant-successors : goal.invariant-successors
invariant-successors l =
    Visiting (graph_of l.graph) l.node l.next l.initial.self.marks.items l.initial.self.stack.items l.self.marks.items l.self.stack.items l.index
