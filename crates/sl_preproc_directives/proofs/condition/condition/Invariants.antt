use Rattle.std.proofs.Common.{length, suc}
use Rattle.sl_preproc_directives.specs.Conditions.{condition_at}
use Rattle.sl_preproc_directives.specs.Held.{values_of}
use Rattle.sl_preproc_directives.specs.Levels.{IsReading, levels_of}
use Rattle.sl_preproc_directives.proofs.condition.condition.Given as goal

abbrev pub invariant-operands : goal.invariant-operands
invariant-operands l = IsReading (values_of l.defs) l.level (levels_of l.levels) l.rest (condition_at (values_of l.defs) (suc (length l.text)) l.text)

abbrev pub decreases-operands : goal.decreases-operands
decreases-operands l = length l.rest
