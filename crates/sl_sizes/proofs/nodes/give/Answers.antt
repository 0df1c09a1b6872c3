use Rattle.std.proofs.Common.{◌+◌, ◌-◌, arith}
use Rattle.sl_sizes.proofs.NodeLemmas.{given_nodes}
use Rattle.sl_sizes.proofs.nodes.give.Goals as goal

pub returns : goal.returns
returns c =
    given_nodes c.args.nodes.now c.args.variable c.locate-place.result.root c.locate-place.result.shift c.args.bytes (c.args.bytes + 16 - c.locate-place.result.shift)
    c.requires.trees c.locate-place.ensures (omega arith) (omega arith) (omega (arith, c.locate-place.ensures.bound, c.requires.trees.in_range c.locate-place.result.root c.locate-place.ensures.in_range))
