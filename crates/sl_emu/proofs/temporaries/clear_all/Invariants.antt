use Rattle.std.proofs.Common.{ℕ, ◌<◌}
use Rattle.std.specs.List.{HoldsAt}
use Rattle.sl_emu.proofs.TemporaryLemmas.{IsBlank}
use Rattle.sl_emu.proofs.temporaries.clear_all.Given as goal

abbrev pub invariant-blocks-2 : goal.invariant-blocks-2
invariant-blocks-2 l = (k : ℕ) → k < l.index → HoldsAt IsBlank l.blocks k
