use Rattle.sl_base_graphs.proofs.LevelLemmas.{meet_equations}
use Rattle.sl_base_graphs.proofs.laws.values_meet_equations.Goals as goal

pub returns : goal.returns
returns g c = meet_equations
