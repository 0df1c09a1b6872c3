use Rattle.sl_section_equations.proofs.EquationLemmas.{size_is}
use Rattle.sl_build.proofs.references.same_size.Goals as goal

pub returns : goal.returns
returns c = size_is c.args.n
