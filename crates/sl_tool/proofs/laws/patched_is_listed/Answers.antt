use Rattle.sl_tool.proofs.PatchedLemmas.{patched_listed}
use Rattle.sl_tool.proofs.laws.patched_is_listed.Goals as goal

pub returns : goal.returns
returns c = patched_listed
