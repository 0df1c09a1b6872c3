use Rattle.std.proofs.Common.{◌*◌, ◌-◌}
use Rattle.sl_asm_fit.proofs.BitLemmas.{low_byte}
use Rattle.sl_asm_fit.proofs.cells.byte_of.Goals as goal

pub returns : goal.returns
returns c = λ j lt. low_byte c.args.number (8 * (15 - c.args.index)) j lt
