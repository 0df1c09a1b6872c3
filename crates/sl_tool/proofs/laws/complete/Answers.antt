use Rattle.sl_tool.proofs.CompleteLemmas.{call_complete}
use Rattle.sl_tool.proofs.laws.complete.Goals as goal

pub returns : goal.returns
returns c = call_complete
