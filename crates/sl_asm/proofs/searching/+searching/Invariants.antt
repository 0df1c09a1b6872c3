use Rattle.std.proofs.Common.{◌+◌, ◌*◌}
use Rattle.sl_asm.proofs.searching.+searching.Given as goal

abbrev pub decreases-searched : goal.decreases-searched
decreases-searched l = 2 * l.room

abbrev pub decreases-searched_half : goal.decreases-searched_half
decreases-searched_half l = 2 * l.room + 1
