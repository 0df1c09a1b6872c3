use Rattle.sl_decode.proofs.BitLemmas.{wrapped_number}
use Rattle.sl_step.proofs.window.wrapped.Goals as goal

pub returns : goal.returns
returns c = wrapped_number c.args.number c.args.size.bytes c.from.result c.from.ensures c.args.size.at_most_8
