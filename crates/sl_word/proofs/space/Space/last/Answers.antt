use Rattle.std.proofs.Common.{◌*◌, ◌≤◌, arith}
use Rattle.sl_word.proofs.Powers.{greatest-shift}
use Rattle.sl_word.proofs.space.Space.last.Goals as goal

pub returns : goal.returns
returns c =
    let fits : 8 * c.args.self.now.size.bytes ≤ 64 = omega (arith, c.args.self.now.size.at_most_8) in
    greatest-shift 64 c.args.self.now.size.bytes (8 * c.from.result) (omega arith) fits
