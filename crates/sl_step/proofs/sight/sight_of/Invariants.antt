use Rattle.std.proofs.Common.{◌≡◌, drop, max}
use Rattle.sl_faithful_reach.specs.Sight.{sight_in}
use Rattle.sl_step.proofs.sight.sight_of.Given as goal

abbrev pub invariant-nodes : goal.invariant-nodes
invariant-nodes l = max l.sight (sight_in (drop l.index l.nodes)) ≡ sight_in l.nodes
