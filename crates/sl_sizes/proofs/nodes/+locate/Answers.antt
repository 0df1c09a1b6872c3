use Rattle.std.proofs.Common.{◌+◌, ◌≤◌, length, arith}
use Rattle.sl_sizes.specs.Nodes.{node_of}
use Rattle.sl_sizes.proofs.TreeLemmas.{shifts_add, place_of_child}
use Rattle.sl_sizes.proofs.nodes.+locate.Goals as goal

pub overflow_sub-result : goal.overflow_sub-result
overflow_sub-result t c =
    (shifts_add (length c.args.nodes.now) (node_of c.args.nodes.now) c.args.variable c.locate-above.result.root c.locate-above.result.shift
    c.requires.trees c.requires.in_range c.locate-above.ensures).0

pub returns : goal.returns
returns t c =
    let node = node_of c.args.nodes.now in
    let enough : 16 ≤ (node_of c.args.nodes.now c.args.variable).shift + c.locate-above.result.shift =
    (shifts_add (length c.args.nodes.now) node c.args.variable c.locate-above.result.root c.locate-above.result.shift c.requires.trees c.requires.in_range c.locate-above.ensures).0
    in
    place_of_child (length c.args.nodes.now) node c.args.variable c.locate-above.result.root c.locate-above.result.shift _
    c.requires.trees c.requires.in_range c.locate-above.ensures (omega arith)
