use Rattle.std.proofs.Common.{◌≡◌, ◌+◌, length, arith}
use Rattle.sl_sizes.specs.Nodes.{node_of}
use Rattle.sl_sizes.proofs.NodeLemmas.{same_answer, same_root}
use Rattle.sl_sizes.proofs.nodes.relate.Goals as goal

pub returns-then-lower-upper : goal.returns-then-lower-upper
returns-then-lower-upper c =
    same_root (length c.args.nodes.now) (node_of c.args.nodes.now) c.args.first c.args.second c.locate-lower.result.root c.locate-upper.result.root
    c.locate-lower.result.shift c.locate-upper.result.shift c.args.less c.requires.trees c.locate-lower.ensures c.locate-upper.ensures c.if-lower-upper.true

pub returns : goal.returns
returns c =
    same_answer c.join.result (length c.args.nodes.now) (node_of c.args.nodes.now) (node_of c.join.new.nodes) _ _
    (λ size allowed.
    let lower : size c.args.first + 16 ≡ size c.locate-lower.result.root + c.locate-lower.result.shift = c.locate-lower.ensures.apart size allowed in
    let upper : size c.args.second + 16 ≡ size c.locate-upper.result.root + c.locate-upper.result.shift = c.locate-upper.ensures.apart size allowed in
    (λ e. omega arith, λ e. omega arith))
    c.join.ensures
