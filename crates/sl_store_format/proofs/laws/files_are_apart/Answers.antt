use Rattle.sl_store_format.proofs.ValidLaws.{packs_apart}
use Rattle.sl_store_format.proofs.laws.files_are_apart.Goals as goal

pub returns : goal.returns
returns c = packs_apart
