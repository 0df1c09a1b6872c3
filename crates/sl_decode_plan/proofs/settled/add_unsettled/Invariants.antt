use Rattle.std.proofs.Common.{take}
use Rattle.sl_decode_leaves.specs.Joined.{all_leaves}
use Rattle.sl_decode_plan.specs.Settled.{AddsUnsettled}
use Rattle.sl_decode_plan.proofs.settled.add_unsettled.Given as goal

abbrev pub invariant-used : goal.invariant-used
invariant-used l = AddsUnsettled l.t (all_leaves l.patterns) (take l.index l.used) l.fn.all l.all
