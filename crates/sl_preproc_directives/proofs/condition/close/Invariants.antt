use Rattle.std.proofs.Common.{◌≤◌, length}
use Rattle.sl_preproc_directives.specs.Definitions.{Values}
use Rattle.sl_preproc_directives.specs.Levels.{Read, IsBehind, levels_of}
use Rattle.sl_preproc_directives.proofs.condition.close.Given as goal

abbrev pub invariant-levels : goal.invariant-levels
invariant-levels l = record {
  within : length l.rest ≤ length l.text;
  behind : (defs : Values) (total : Read) → IsBehind defs l.fn.level (levels_of l.fn.levels) l.fn.verdict l.text total → IsBehind defs l.inner (levels_of l.levels) l.operand l.rest total;
}

abbrev pub decreases-levels : goal.decreases-levels
decreases-levels l = length (levels_of l.levels)
