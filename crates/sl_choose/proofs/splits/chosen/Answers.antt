use Rattle.sl_choose.proofs.CountLemmas.{forced_splits}
use Rattle.sl_choose.proofs.splits.chosen.Goals as goal

pub returns : goal.returns
returns c = forced_splits c.args.entries.now c.in-Some.bits c.args.room c.requires c.in-Some.ensures
