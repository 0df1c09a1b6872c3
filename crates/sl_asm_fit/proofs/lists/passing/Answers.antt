use Rattle.sl_asm_fit.proofs.FrontLemmas.{front_none}
use Rattle.sl_asm_fit.proofs.lists.passing.Goals as goal

pub pass_from-requires-clause-front : goal.pass_from-requires-clause-front
pass_from-requires-clause-front g c = rw c.new-bytes.ensures.items (front_none c.args.region.now)
