use Rattle.std.proofs.Common.{◌+◌, ◌≤◌, arith}
use Rattle.sl_choose.proofs.TreeLemmas.{all_from, apart_from, tree_from}
use Rattle.sl_choose.proofs.tree.+grow.Goals as goal

pub grow-requires : goal.grow-requires
grow-requires t c =
    let split = rw c.deref.ensures.value at c.in-Some.ensures in
    let sides = rw c.deref-2.ensures.value at c.in_ok-both.ensures in
    let low = c.in_ok-both.both.low.ok.0 in
    (omega (arith, c.decreases, split.low_fewer, sides.low_count), omega (arith, c.len-low.ensures, low))

pub grow-requires-2 : goal.grow-requires-2
grow-requires-2 t c =
    let split = rw c.deref.ensures.value at c.in-Some.ensures in
    let sides = rw c.deref-2.ensures.value at c.in_ok-both.ensures in
    let low = c.in_ok-both.both.low.ok.0 in
    let high = c.in_ok-both.both.high.ok.0 in (
      omega (arith, c.decreases, split.high_fewer, sides.high_count),
      omega (arith, c.share.ensures, c.len-low.ensures, c.len-high.ensures, low, high, sides.low_count, sides.high_count, split.fit),
    )

pub returns-clause-grown : goal.returns-clause-grown
returns-clause-grown t c =
    let split = rw c.deref.ensures.value at c.in-Some.ensures in
    let sides = rw c.deref-2.ensures.value at c.in_ok-both.ensures in
    let low = c.in_ok-both.both.low.ok.0 in
    let high = c.in_ok-both.both.high.ok.0 in
    let low_room = c.len-low.result + c.share.result in
    let share : low_room ≤ c.args.room = omega (arith, c.share.ensures, c.len-low.ensures, c.len-high.ensures, low, high, sides.low_count, sides.high_count, split.fit) in
    let apart = apart_from c.args.entries.items c.in-Some.bits c.in_ok-both.both.low.items c.in_ok-both.both.high.items c.in_ok-below.below c.in_ok-above.above c.in_ok-node.node
    sides c.in_ok-node.ensures c.in_ok-below.ensures.all c.in_ok-above.ensures.all c.args.room split in
    c.in_ok-node.ensures.grown low_room c.args.room share apart c.in_ok-below.ensures.grown c.in_ok-above.ensures.grown

pub returns-clause-all : goal.returns-clause-all
returns-clause-all t c =
    let sides = rw c.deref-2.ensures.value at c.in_ok-both.ensures in
    all_from c.args.entries.items c.in-Some.bits c.in_ok-both.both.low.items c.in_ok-both.both.high.items c.in_ok-below.below c.in_ok-above.above c.in_ok-node.node
    sides c.in_ok-node.ensures c.in_ok-below.ensures.all c.in_ok-above.ensures.all

pub returns-clause-tree : goal.returns-clause-tree
returns-clause-tree t c = λ sets are p.
    let sides = rw c.deref-2.ensures.value at c.in_ok-both.ensures in
    tree_from sets c.args.entries.items c.in-Some.bits p c.in_ok-both.both.low.items c.in_ok-both.both.high.items c.in_ok-below.below c.in_ok-above.above c.in_ok-node.node
    sides c.in_ok-node.ensures (c.in_ok-below.ensures.tree sets are p) (c.in_ok-above.ensures.tree sets are p)
