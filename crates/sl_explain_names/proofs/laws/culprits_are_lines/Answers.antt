use Rattle.sl_explain_names.proofs.LineLemmas.{culprits}
use Rattle.sl_explain_names.proofs.laws.culprits_are_lines.Goals as goal

pub returns : goal.returns
returns c = culprits
