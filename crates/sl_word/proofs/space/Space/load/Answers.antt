use Rattle.std.proofs.Common.{arith}
use Rattle.sl_word.proofs.Powers.{bytes_mono}
use Rattle.sl_word.proofs.space.Space.load.Goals as goal

pub add_pages_of-requires : goal.add_pages_of-requires
add_pages_of-requires c =
    omega (arith, c.requires, bytes_mono c.args.self.now.size.bytes 8 c.args.self.now.size.at_most_8)
