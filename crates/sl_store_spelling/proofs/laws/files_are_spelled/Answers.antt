use Rattle.sl_store_spelling.proofs.FileLaws.{files_spelled}
use Rattle.sl_store_spelling.proofs.laws.files_are_spelled.Goals as goal

pub returns : goal.returns
returns c = files_spelled
