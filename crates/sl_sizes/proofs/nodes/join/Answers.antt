use Rattle.std.proofs.Common.{length, sym}
use Rattle.sl_sizes.specs.Nodes.{node_of}
use Rattle.sl_sizes.proofs.NodeLemmas.{same_answer}
use Rattle.sl_sizes.proofs.nodes.join.Goals as goal

pub returns-else-nodes-first : goal.returns-else-nodes-first
returns-else-nodes-first c =
    same_answer c.hang-else-nodes-first.result (length c.args.nodes.now) (node_of c.args.nodes.now) (node_of c.hang-else-nodes-first.new.nodes) _ _
    (λ size allowed. (λ e. sym e, λ e. sym e)) c.hang-else-nodes-first.ensures
