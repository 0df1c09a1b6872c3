use Rattle.std.proofs.Common.{take, length}
use Rattle.sl_sizes.specs.Nodes.{node_of, StandFor, RanksUpTo}
use Rattle.sl_sizes.proofs.inference.first_clash.Given as goal

abbrev pub invariant-equations : goal.invariant-equations
invariant-equations l = record {
  stand : StandFor (length l.nodes) (node_of l.nodes) (take l.index l.equations);
  ranks : RanksUpTo l.index (length l.nodes) (node_of l.nodes);
}
