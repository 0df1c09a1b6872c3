use Rattle.sl_bind_compile.proofs.OutcomeLemmas.{compiles_one}
use Rattle.sl_bind_compile.proofs.laws.outcome_is_one.Goals as goal

pub returns : goal.returns
returns c = compiles_one
