use Rattle.std.proofs.Common.{◌+◌, ◌-◌, arith}
use Rattle.sl_sizes.proofs.NodeLemmas.{joined_nodes}
use Rattle.sl_sizes.proofs.nodes.hang.Goals as goal

pub returns : goal.returns
returns c =
    joined_nodes c.args.nodes.now c.args.child c.args.parent c.args.before c.args.after c.max.result c.min.result (c.args.after + 16 - c.args.before) c.max-2.result
    c.requires.trees c.requires.child.0 c.requires.parent.0 c.requires.apart c.requires.child.1 c.requires.parent.1
    (omega arith) (omega arith) (omega arith) (omega arith) (omega arith) (omega arith)
