use Rattle.std.proofs.Common.{ap}
use Rattle.sl_spec.specs.Tables.{Space}
use Rattle.sl_spec_registers.proofs.RegisterLemmas.{top_is, top_is_small}
use Rattle.sl_spec_registers.proofs.registers.end_of.Goals as goal

pub returns-clause-end : goal.returns-clause-end
returns-clause-end c = top_is c.args.space.now.size c.space.inside.size (ap (λ (s : Space). s.size) c.space.view_is) c.space.invariant.1

pub returns-clause-most : goal.returns-clause-most
returns-clause-most c = top_is_small c.space.inside.size c.space.invariant.1
