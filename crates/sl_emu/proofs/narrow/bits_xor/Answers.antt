use Rattle.std.proofs.Common.{◌<◌, ◌^◌}
use Rattle.sl_word.proofs.Powers.{xor_below}
use Rattle.sl_emu.proofs.narrow.bits_xor.Goals as goal

pub returns-clause-below : goal.returns-clause-below
returns-clause-below c =
    let below : c.args.b.bits < 256 ^ c.args.a.size.bytes = rw (← c.requires) c.args.b.in_range in
    xor_below c.args.a.size.bytes c.args.a.bits c.args.b.bits c.args.a.in_range below
