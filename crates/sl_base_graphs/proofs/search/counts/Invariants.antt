use Rattle.std.proofs.Common.{◌≡◌, length, map, take}
use Rattle.sl_base_graphs.specs.Views.{graph_of}
use Rattle.sl_base_graphs.proofs.search.counts.Given as goal

abbrev pub invariant-nodes : goal.invariant-nodes
invariant-nodes l = l.counts.items ≡ map (λ xs. length xs) (take l.index (graph_of l.graph))
