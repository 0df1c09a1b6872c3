use Rattle.sl_show.proofs.EntryLemmas.{kids_back, kids_front}
use Rattle.sl_show.proofs.entries.parted.Goals as goal

pub returns-clause-kids : goal.returns-clause-kids
returns-clause-kids c values n below behind e = kids_front values c.args.nodes.now n below behind e _ c.split_at.result.1.now c.divided.result.0.now c.split_at.ensures.back c.divided.ensures.front

pub returns-clause-rest : goal.returns-clause-rest
returns-clause-rest c values n below behind e = kids_back values c.args.nodes.now n below behind e _ c.split_at.result.1.now c.divided.result.1.now c.split_at.ensures.back c.divided.ensures.back
