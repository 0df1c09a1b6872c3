use Rattle.sl_decode_plan.proofs.UseLemmas.{address_same, ok_as, uses_one}
use Rattle.sl_decode_plan.proofs.uses.use_address.Goals as goal

pub returns-in-Name : goal.returns-in-Name
returns-in-Name c = ok_as c.use_name.result c.use_name.ensures (λ used.
    uses_one c.args.t.now c.args.operands.now c.args.leaves.now c.args.all.now c.use_name.new.all _ _ used
    (λ those ms. address_same c.args.t.now c.args.operands.now c.args.leaves.now those ms c.args.of.now c.in-Name.name c.in-Name.is))
