use Rattle.std.proofs.Common.{arith}
use Rattle.std.proofs.lemmas.List.Sorted.{Contains-permutation, length_permutation}
use Rattle.sl_choose.proofs.CountLemmas.{none_forced, unsplit_moved}
use Rattle.sl_choose.proofs.TreeLemmas.{leaf_tree}
use Rattle.sl_choose.proofs.tree.leaf.Goals as goal

pub returns-clause-size : goal.returns-clause-size
returns-clause-size c = omega (arith, length_permutation c.args.entries.now _ c.in_ok-in_order.ensures.moved, c.requires.fits)

pub returns-clause-grown : goal.returns-clause-grown
returns-clause-grown c = unsplit_moved c.args.entries.now _ c.args.room c.in_ok-in_order.ensures.moved c.requires.unsplit

pub returns-clause-all : goal.returns-clause-all
returns-clause-all c = λ e there. Contains-permutation c.args.entries.now c.in_ok-in_order.in_order.items e c.in_ok-in_order.ensures.moved there

pub returns-clause-tree : goal.returns-clause-tree
returns-clause-tree c = λ sets are p. leaf_tree sets c.args.entries.now c.in_ok-in_order.in_order.items p (c.in_ok-in_order.ensures.order sets are)
    (none_forced c.args.entries.now c.args.room c.requires.fits c.requires.unsplit)
