use Rattle.sl_faithful_places.proofs.CountLemmas.{taken_are_few}
use Rattle.sl_faithful_places.proofs.laws.taken_are_few.Goals as goal

pub returns : goal.returns
returns c = taken_are_few
