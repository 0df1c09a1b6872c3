use Rattle.sl_bind_compile.proofs.OutcomeLemmas.{some_compiles}
use Rattle.sl_bind_compile.proofs.laws.some_outcome.Goals as goal

pub returns : goal.returns
returns c = some_compiles
