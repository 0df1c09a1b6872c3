use Rattle.sl_asm_values.specs.Halves.{IsLeft}
use Rattle.sl_asm_values.proofs.narrowing.by_bits.Given as goal

abbrev pub invariant-rounds : goal.invariant-rounds
invariant-rounds l = IsLeft l.fn.t l.fn.frame l.fn.region.items l.fn.v l.fn.wanted l.left
