use Rattle.std.specs.Int.{cast_unsigned, w64}
use Rattle.sl_asm_values.proofs.SideLemmas.{and_has}
use Rattle.sl_asm_values.proofs.sides.side_of_and.Goals as goal

pub returns : goal.returns
returns c = λ x y fits has f. and_has c.args.wanted.now c.args.other.now c.under.result x y fits has (c.under.ensures (cast_unsigned w64 x)).0 f
