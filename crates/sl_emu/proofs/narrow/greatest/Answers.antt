use Rattle.std.proofs.Common.{◌*◌, arith}
use Rattle.sl_word.proofs.Powers.{greatest-shift}
use Rattle.sl_emu.proofs.narrow.greatest.Goals as goal

pub returns : goal.returns
returns c = greatest-shift 64 c.args.size.bytes (8 * c.from.result) (omega arith) (omega (arith, c.requires))
