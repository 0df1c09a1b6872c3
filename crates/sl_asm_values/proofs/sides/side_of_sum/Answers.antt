use Rattle.std.proofs.Common.{subst}
use Rattle.std.specs.Prelude.{◌+ℤ◌}
use Rattle.sl_asm_bits.specs.Known.{HasBits}
use Rattle.sl_asm_values.proofs.SideLemmas.{sum_less}
use Rattle.sl_spec_operators.specs.Operators.{wrapped}
use Rattle.sl_asm_values.proofs.sides.side_of_sum.Goals as goal

pub returns-in-Some : goal.returns-in-Some
returns-in-Some c = λ x y fits has f.
    subst (HasBits c.in-Some.known) (sum_less c.args.wanted.now c.args.other.now c.in-Some.known x y fits has) (c.in-Some.ensures (wrapped (x +ℤ y)) y f has)
