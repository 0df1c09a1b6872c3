use Rattle.sl_explain_heads.proofs.LineLemmas.{heads}
use Rattle.sl_explain_heads.proofs.laws.heads_are_lines.Goals as goal

pub returns : goal.returns
returns c = heads
