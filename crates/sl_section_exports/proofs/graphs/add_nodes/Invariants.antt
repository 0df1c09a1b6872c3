use Rattle.std.proofs.Common.{◌≡◌, [], ◌++◌, replicate}
use Rattle.sl_base_graphs.specs.Views.{graph_of}
use Rattle.sl_section_exports.proofs.graphs.add_nodes.Given as goal

abbrev pub invariant-nodes : goal.invariant-nodes
invariant-nodes l = graph_of l.graph.items ≡ graph_of l.initial.graph.items ++ replicate l._node []
