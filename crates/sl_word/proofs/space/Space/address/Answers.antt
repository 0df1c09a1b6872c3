use Rattle.std.proofs.Common.{◌+◌, ◌%◌, ◌^◌, ◌≤◌, ◌*◌, ◌∙◌, arith}
use Rattle.sl_word.proofs.Powers.{low-mask, low-wrap}
use Rattle.sl_word.proofs.space.Space.address.Goals as goal

pub returns : goal.returns
returns c =
    let fits : 8 * c.args.self.now.size.bytes ≤ 64 = omega (arith, c.args.self.now.size.at_most_8) in
    low-mask ((c.args.base + c.args.after) % 2 ^ 64) _ c.args.self.now.size.bytes c.last.ensures
    ∙ low-wrap (c.args.base + c.args.after) 64 c.args.self.now.size.bytes fits
