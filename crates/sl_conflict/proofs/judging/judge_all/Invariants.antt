use Rattle.std.proofs.Common.{ℕ, List}
use Rattle.sl_cube_sets.specs.declared.CubeSet.{CubeSet}
use Rattle.sl_conflict.specs.Kept.{AreTablesOf}
use Rattle.sl_conflict.specs.Rows.{rows}
use Rattle.sl_conflict.proofs.JudgeLemmas.{AreJudged}
use Rattle.sl_conflict.proofs.judging.judge_all.Given as goal

abbrev pub invariant-ctors : goal.invariant-ctors
invariant-ctors l = (count : ℕ) (sets : List CubeSet) → AreTablesOf count (rows l.ctors sets) l.tables → AreJudged l.ctors sets count l.number
