use Rattle.sl_explain_lines.proofs.ShownLemmas.{spots}
use Rattle.sl_explain_lines.proofs.laws.spots_are_lines.Goals as goal

pub returns : goal.returns
returns c = spots
