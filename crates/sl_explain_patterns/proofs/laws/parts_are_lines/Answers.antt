use Rattle.sl_explain_patterns.proofs.LineLemmas.{parts}
use Rattle.sl_explain_patterns.proofs.laws.parts_are_lines.Goals as goal

pub returns : goal.returns
returns c = parts
