use Rattle.std.proofs.Common.{◌*◌, ◌+◌}
use Rattle.sl_asm_known.proofs.BitsLemmas.{above_has}
use Rattle.sl_asm_known.proofs.narrowing.above.Goals as goal

pub returns : goal.returns
returns c = λ n b small has. (c.under.ensures n).0 (above_has c.args.number.now.mask c.args.number.now.value n b small has)
