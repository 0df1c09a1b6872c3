use Rattle.std.proofs.Common.{◌≡◌, max, drop, get_or}
use Rattle.sl_base_graphs.specs.Heights.{above}
use Rattle.sl_base_graphs.proofs.heights.above.Given as goal

abbrev pub invariant-nodes : goal.invariant-nodes
invariant-nodes l = max l.most (above (λ w. get_or l.heights w 0) (drop l.node-index l.nodes)) ≡ above (λ w. get_or l.heights w 0) l.nodes
