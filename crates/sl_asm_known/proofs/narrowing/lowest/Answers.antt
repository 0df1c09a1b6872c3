use Rattle.std.proofs.Common.{bit_and}
use Rattle.sl_asm_known.proofs.BitsLemmas.{lowest_has}
use Rattle.sl_cube.proofs.BitLemmas.{and_within}
use Rattle.sl_asm_known.proofs.narrowing.lowest.Goals as goal

pub invariant_of-result : goal.invariant_of-result
invariant_of-result c = record { within = and_within (bit_and c.args.number.now.value 255) (bit_and c.args.number.now.mask 255) }

pub returns : goal.returns
returns c = λ n b small has. lowest_has c.args.number.now.mask c.args.number.now.value n b small has
