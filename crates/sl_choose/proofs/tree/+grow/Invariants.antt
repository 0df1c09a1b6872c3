use Rattle.std.proofs.Common.{length}
use Rattle.sl_choose.proofs.tree.+grow.Given as goal

abbrev pub decreases-grow : goal.decreases-grow
decreases-grow l = length l.entries.items
