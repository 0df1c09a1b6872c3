use Rattle.sl_store_spelling.proofs.ModeLaws.{read_items}
use Rattle.sl_store_spelling.proofs.laws.read_items_have_leaves.Goals as goal

pub returns : goal.returns
returns c = read_items
