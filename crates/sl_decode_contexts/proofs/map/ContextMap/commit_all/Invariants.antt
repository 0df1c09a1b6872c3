use Rattle.std.proofs.Common.{ℕ, List, ◌++◌, take}
use Rattle.sl_decode_contexts.specs.declared.commits.Commit.{Commit}
use Rattle.sl_decode_contexts.specs.Runs.{Stands}
use Rattle.sl_decode_contexts.proofs.map.ContextMap.commit_all.Given as goal

abbrev pub invariant-commits : goal.invariant-commits
invariant-commits l = (start : ℕ) (cs : List Commit) → Stands l.initial.self start cs → Stands l.self start (cs ++ take l.commit-index l.commits)
