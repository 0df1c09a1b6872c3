use Rattle.std.proofs.Common.{arith}
use Rattle.sl_sizes.specs.Nodes.{node_of}
use Rattle.sl_sizes.proofs.NodeLemmas.{singles_stand}
use Rattle.sl_sizes.proofs.inference.singles.Goals as goal

pub returns-clause-stand : goal.returns-clause-stand
returns-clause-stand c =
    singles_stand c.args.variables (node_of c.variables.nodes.items) (λ v below. c.variables.invariant.single v (omega arith))
