use Rattle.std.proofs.Common.{◌*◌, arith}
use Rattle.std.proofs.lemmas.Grind.{common_steps}
use Rattle.sl_word.proofs.Powers.{greatest-shift}
use Rattle.sl_build_emit.proofs.varnodes.greatest.Goals as goal

pub returns : goal.returns
returns c =
    grind (arith, common_steps, greatest-shift 64 c.args.n.bytes (8 * c.args.n.bytes) (omega arith) (omega (arith, c.requires)))
