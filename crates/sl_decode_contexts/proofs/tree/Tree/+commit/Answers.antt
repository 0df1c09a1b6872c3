use Rattle.sl_decode_contexts.proofs.TreeLemmas.{on_left, on_right}
use Rattle.sl_decode_contexts.proofs.tree.Tree.+commit.Goals as goal
use Rattle.sl_decode_contexts.proofs.tree.Tree.+commit.Goals.{then-c-sum+in_ok-commit-in-Fork, else-c-sum+in_ok-commit-in-Fork-2}

pub returns-after-c-sum-clause-committed : goal.returns-after-c-sum-clause-committed
returns-after-c-sum-clause-committed t c =
    elim c.if-c-sum.branch [
      | then-c-sum+in_ok-commit-in-Fork w ↦ rw (c.in-Fork.is, c.sum_of.ensures, c.deref.ensures, c.deref-in-Fork.ensures, w.left-is, w.right-is) (on_left c.args.c.now _ _ _ _ _ _ _ c.in-Fork.sum w.if-c-sum.true (rw w.deref_mut.ensures.value at w.in_ok-commit-in-Fork.ensures.committed))
      | else-c-sum+in_ok-commit-in-Fork-2 w ↦ rw (c.in-Fork.is, c.sum_of.ensures, c.deref.ensures, c.deref-in-Fork.ensures, w.left-is, w.right-is) (on_right c.args.c.now _ _ _ _ _ _ _ c.in-Fork.sum w.if-c-sum.false (rw w.deref_mut-else-c-sum.ensures.value at w.in_ok-commit-in-Fork-2.ensures.committed))
    ]
