use Rattle.sl_explain_exports.proofs.LineLemmas.{culprits}
use Rattle.sl_explain_exports.proofs.laws.export_culprits_are_lines.Goals as goal

pub returns : goal.returns
returns c = culprits
