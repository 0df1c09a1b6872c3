use Rattle.sl_asm_bits.proofs.NumberLemmas.{masked}
use Rattle.sl_asm_bits.proofs.numbers.under.Goals as goal
use Rattle.sl_cube.proofs.BitLemmas.{and_within}

pub invariant_of-result : goal.invariant_of-result
invariant_of-result c = record { within = and_within c.args.number c.args.mask }

pub returns : goal.returns
returns c = λ n. masked c.args.mask c.args.number n
