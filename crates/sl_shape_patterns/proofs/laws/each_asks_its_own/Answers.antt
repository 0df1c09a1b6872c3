use Rattle.sl_shape_patterns.proofs.LawLemmas.{read_alike}
use Rattle.sl_shape_patterns.proofs.laws.each_asks_its_own.Goals as goal

pub returns : goal.returns
returns c = read_alike
