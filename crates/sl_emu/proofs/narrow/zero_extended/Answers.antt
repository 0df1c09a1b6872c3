use Rattle.std.proofs.Common.{arith}
use Rattle.sl_word.proofs.Powers.{bytes_mono}
use Rattle.sl_emu.proofs.narrow.zero_extended.Goals as goal

pub returns-clause-below : goal.returns-clause-below
returns-clause-below c =
    omega (arith, c.args.a.in_range, bytes_mono c.args.a.size.bytes c.args.out.bytes c.requires)
