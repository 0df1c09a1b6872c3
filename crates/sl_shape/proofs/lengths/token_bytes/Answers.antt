use Rattle.std.proofs.Common.{◌/◌, sym}
use Rattle.sl_shape.proofs.ExtentLemmas.{past_end}
use Rattle.sl_shape.proofs.lengths.token_bytes.Goals as goal

pub returns-in-None : goal.returns-in-None
returns-in-None c = past_end (λ token. token.bits / 8) c.args.t.now.tokens c.args.token 0 (sym c.in-None.ensures)
