use Rattle.std.proofs.Common.{ℕ, ◌<◌}
use Rattle.std.specs.List.{HoldsAt}
use Rattle.std.specs.Prelude.{IsNone}
use Rattle.sl_step.proofs.buffers.forget.Given as goal

abbrev pub invariant-empty : goal.invariant-empty
invariant-empty l = (k : ℕ) → k < l.index → HoldsAt IsNone l.slots k
