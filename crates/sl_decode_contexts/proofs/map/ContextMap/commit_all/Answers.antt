use Rattle.std.proofs.Common.{arith}
use Rattle.std.proofs.Common.{◌++◌, subst, sym, take}
use Rattle.sl_decode_contexts.specs.Kept.{Kept}
use Rattle.sl_decode_contexts.specs.Runs.{Stands}
use Rattle.sl_decode_contexts.proofs.SeveralLemmas.{all_commits, one_commit}
use Rattle.sl_decode_contexts.proofs.map.ContextMap.commit_all.Goals as goal

pub commits-preserved : goal.commits-preserved
commits-preserved c start cs s =
    one_commit c.commit.new.self start cs c.args.commits.now c.commits.commit-index _ (omega arith) (c.in-Ok.ensures.stands start _ (c.commits.invariant start cs s))

pub returns-clause-all : goal.returns-clause-all
returns-clause-all c start cs s = all_commits c.commits.self start cs c.args.commits.now c.commits.commit-index (omega arith) (c.commits.invariant start cs s)

pub returns-in-Err-clause-first : goal.returns-in-Err-clause-first
returns-in-Err-clause-first c start cs s = (
  c.commits.commit-index,
  subst (λ (m : Kept). Stands m start (cs ++ take c.commits.commit-index c.args.commits.now)) (sym c.in-Err.ensures.unchanged)
      (c.commits.invariant start cs s),
)
