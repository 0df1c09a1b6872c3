use Rattle.sl_test_laws.proofs.Conditions as law
use Rattle.sl_test_laws.proofs.laws.more_room_reads_the_same.Goals as goal

pub returns : goal.returns
returns c = law.more_room
