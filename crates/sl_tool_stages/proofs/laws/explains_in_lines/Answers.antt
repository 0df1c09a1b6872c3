use Rattle.sl_tool_stages.proofs.ExplainedLemmas.{explained}
use Rattle.sl_tool_stages.proofs.laws.explains_in_lines.Goals as goal

pub returns : goal.returns
returns c = explained
