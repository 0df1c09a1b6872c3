use Rattle.std.proofs.Common.{◌≡◌, arith}
use Rattle.sl_build.specs.Pieces.{behind_of, below_of}
use Rattle.sl_build.specs.Views.{pieces_of}
use Rattle.sl_build.proofs.LoopLemmas.{passed_all, taken_all}
use Rattle.sl_build.proofs.trees.take_below.Goals as goal

pub returns-clause-below : goal.returns-clause-below
returns-clause-below c =
    let none : c.trees.left ≡ 0 = omega (arith, c.trees-test.false) in
    taken_all c.trees.below.items c.trees.done.items c.trees.left (below_of c.args.count (pieces_of c.args.done.now.items)) none c.trees.invariant.below

pub returns-clause-behind : goal.returns-clause-behind
returns-clause-behind c =
    let none : c.trees.left ≡ 0 = omega (arith, c.trees-test.false) in
    passed_all c.trees.done.items c.trees.left (behind_of c.args.count (pieces_of c.args.done.now.items)) none c.trees.invariant.behind
