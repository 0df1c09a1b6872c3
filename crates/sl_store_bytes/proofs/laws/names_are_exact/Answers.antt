use Rattle.sl_store_bytes.proofs.LexemeLaws.{exact_name}
use Rattle.sl_store_bytes.proofs.laws.names_are_exact.Goals as goal

pub returns : goal.returns
returns c = exact_name
