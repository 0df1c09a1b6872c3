use Rattle.sl_explain_sizes.proofs.LineLemmas.{sizes}
use Rattle.sl_explain_sizes.proofs.laws.sizes_are_lines.Goals as goal

pub returns : goal.returns
returns c = sizes
