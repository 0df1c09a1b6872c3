use Rattle.sl_preproc.proofs.TreeLemmas.{flattened_tree}
use Rattle.sl_preproc.proofs.laws.tree_keeps_lines.Goals as goal

pub returns : goal.returns
returns c = flattened_tree
