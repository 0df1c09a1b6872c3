use Rattle.sl_test_laws.proofs.Places as law
use Rattle.sl_test_laws.proofs.laws.bytes_have_their_lines_place.Goals as goal

pub returns : goal.returns
returns c = law.place_is
