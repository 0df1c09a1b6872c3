use Rattle.std.proofs.Common.{◌≡◌, ◌<◌, ◌≤◌, ap, ◌∙◌, subst}
use Rattle.sl_decode_contexts.specs.declared.tree.Tree.{Leaf}
use Rattle.sl_decode_contexts.specs.AtAddress.{with_commit, fresh}
use Rattle.sl_decode_contexts.specs.Trees.{first_of, last_of}
use Rattle.sl_decode_contexts.proofs.TreeLemmas.{below_all, above_all}
use Rattle.sl_decode_contexts.proofs.tree.Tree.commit_beside.Goals as goal
use Rattle.sl_decode_contexts.proofs.tree.Tree.commit_beside.Goals.{then-c-first, else-c-first}

pub returns-clause-committed : goal.returns-clause-committed
returns-clause-committed c =
    let x = c.args.c.now in
    let fresh : c.in_ok-fresh.fresh.value ≡ Leaf (with_commit x (fresh x.address)) =
    c.in_ok-fresh.ensures.ok ∙ ap Leaf (c.given-run.ensures ∙ ap (with_commit x) c.fresh.ensures) in
    elim c.if-c-first.branch [
      | then-c-first w ↦ rw (w.t-35-is, w.fork.ensures) (rw c.swap.ensures.x_after (below_all x _ _ _ _ w.parting-split.result fresh w.parting-split.ensures.past
          (subst (λ n. w.parting-split.result ≤ n) (w.first-then-c-first.ensures ∙ ap first_of (w.deref-then-c-first.ensures ∙ c.swap.ensures.x_after)) w.parting-split.ensures.within)))
      | else-c-first w ↦ rw (w.t-35-is, w.fork-else-c-first.ensures) (rw c.swap.ensures.x_after (above_all x _ _ _ _ w.parting-split-else-c-first.result fresh
          (subst (λ n. n < w.parting-split-else-c-first.result) (w.last.ensures ∙ ap last_of (w.deref-else-c-first.ensures ∙ c.swap.ensures.x_after)) w.parting-split-else-c-first.ensures.past) w.parting-split-else-c-first.ensures.within))
    ]
