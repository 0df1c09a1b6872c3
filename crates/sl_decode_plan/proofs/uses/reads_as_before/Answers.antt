use Rattle.sl_decode_plan.proofs.UseLemmas.{read_as}
use Rattle.sl_decode_plan.proofs.uses.reads_as_before.Goals as goal

pub returns : goal.returns
returns c = λ same.
    let both = c.is_alike.ensures same in
    read_as c.args.t.now c.args.operands.now c.args.leaves.now c.in_ok-now.now c.args.x.now c.in_ok-now.ensures.name c.in_ok-now.ensures.reads both.0 both.1
