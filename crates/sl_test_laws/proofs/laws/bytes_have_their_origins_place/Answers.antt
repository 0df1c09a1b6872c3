use Rattle.sl_test_laws.proofs.Origins as law
use Rattle.sl_test_laws.proofs.laws.bytes_have_their_origins_place.Goals as goal

pub returns : goal.returns
returns c = law.origin_is
