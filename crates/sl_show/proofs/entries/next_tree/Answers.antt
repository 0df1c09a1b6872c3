use Rattle.std.proofs.Common.{◌≡◌, ◌<◌, length, rules}
use Rattle.sl_show.proofs.EntryLemmas.{next_none, next_of}
use Rattle.sl_show.proofs.entries.next_tree.Goals as goal

pub returns-then-is_empty-clause-trees : goal.returns-then-is_empty-clause-trees
returns-then-is_empty-clause-trees c values f e =
    let empty : length c.args.nodes.now ≡ 0 = search rules in next_none values c.args.nodes.now f empty e

pub returns-clause-trees : goal.returns-clause-trees
returns-clause-trees c values f e =
    let some : 0 < length c.args.nodes.now = search rules in
    next_of values c.args.nodes.now c.parted.result.1.now f some e (λ n below behind is. c.parted.ensures.rest values n below behind is)
