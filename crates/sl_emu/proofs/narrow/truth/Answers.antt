use Rattle.std.proofs.Common.{rules}
use Rattle.sl_word.proofs.Powers.{byte_below}
use Rattle.sl_emu.proofs.narrow.truth.Goals as goal

pub returns-clause-below : goal.returns-clause-below
returns-clause-below c = byte_below c.from.result c.args.out.bytes (search rules) c.args.out.some
