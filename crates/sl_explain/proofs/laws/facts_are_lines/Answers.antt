use Rattle.sl_explain.proofs.LineLemmas.{facts}
use Rattle.sl_explain.proofs.laws.facts_are_lines.Goals as goal

pub returns : goal.returns
returns c = facts
