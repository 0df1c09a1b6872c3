use Rattle.std.proofs.Common.{ℕ, ◌<◌, get_or}
use Rattle.sl_asm_bounds.specs.Bounds.{IsKnown}
use Rattle.sl_asm_bounds.proofs.operands.Lengths.are_known.Given as goal

abbrev pub invariant-operands : goal.invariant-operands
invariant-operands l = (k : ℕ) → k < l.index → IsKnown (get_or l.self.leasts.items k 0) (get_or l.self.mosts.items k 0)
