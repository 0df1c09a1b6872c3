use Rattle.sl_preproc.proofs.TextFileLemmas.{asks_for_files}
use Rattle.sl_preproc.proofs.laws.files_are_asked_for.Goals as goal

pub returns : goal.returns
returns c = asks_for_files
