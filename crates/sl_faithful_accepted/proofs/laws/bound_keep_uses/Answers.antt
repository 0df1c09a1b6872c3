use Rattle.sl_faithful_accepted.proofs.Uses.{bound_keep_uses}
use Rattle.sl_faithful_accepted.proofs.laws.bound_keep_uses.Goals as goal

pub returns : goal.returns
returns c = bound_keep_uses
