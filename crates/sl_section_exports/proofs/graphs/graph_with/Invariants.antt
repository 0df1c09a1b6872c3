use Rattle.std.proofs.Common.{◌≡◌, take}
use Rattle.sl_base_graphs.specs.Views.{graph_of}
use Rattle.sl_section_exports.specs.Exports as spec
use Rattle.sl_section_exports.proofs.graphs.graph_with.Given as goal

abbrev pub invariant-edges : goal.invariant-edges
invariant-edges l = graph_of l.graph.items ≡ spec.graph_with l.count (take l.index l.edges)
