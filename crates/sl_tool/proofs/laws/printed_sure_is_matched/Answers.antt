use Rattle.sl_tool.proofs.SureLineLemmas.{printed_sure}
use Rattle.sl_tool.proofs.laws.printed_sure_is_matched.Goals as goal

pub returns : goal.returns
returns c = printed_sure
