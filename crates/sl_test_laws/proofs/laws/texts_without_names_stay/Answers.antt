use Rattle.sl_test_laws.proofs.Replacement as law
use Rattle.sl_test_laws.proofs.laws.texts_without_names_stay.Goals as goal

pub returns : goal.returns
returns c = law.stays_as_it_is
