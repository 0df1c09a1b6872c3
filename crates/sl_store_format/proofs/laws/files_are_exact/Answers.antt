use Rattle.sl_store_format.proofs.PackedLaws.{exact_written}
use Rattle.sl_store_format.proofs.laws.files_are_exact.Goals as goal

pub returns : goal.returns
returns c = exact_written
