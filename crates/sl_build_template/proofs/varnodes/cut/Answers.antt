use Rattle.std.proofs.Common.{arith}
use Rattle.std.proofs.lemmas.Grind.{common_steps}
use Rattle.sl_word.proofs.Powers.{bytes_pos}
use Rattle.sl_build_template.proofs.varnodes.cut.Goals as goal

pub nonzero_rem-result : goal.nonzero_rem-result
nonzero_rem-result c = grind (arith, common_steps, bytes_pos c.args.n.bytes)
