use Rattle.std.proofs.Common.{◌<◌, ◌^◌}
use Rattle.sl_word.proofs.Powers.{or_below}
use Rattle.sl_emu.proofs.narrow.bits_or.Goals as goal

pub returns-clause-below : goal.returns-clause-below
returns-clause-below c =
    let below : c.args.b.bits < 256 ^ c.args.a.size.bytes = rw (← c.requires) c.args.b.in_range in
    or_below c.args.a.size.bytes c.args.a.bits c.args.b.bits c.args.a.in_range below
