use Rattle.std.proofs.Common.{◌-◌, ◌^◌}
use Rattle.sl_sizes.specs.Nodes.{node_of}
use Rattle.sl_sizes.proofs.nodes.+locate.Given as goal

abbrev pub decreases-locate : goal.decreases-locate
decreases-locate l = 2 ^ 64 - (node_of l.nodes.now l.variable).rank
