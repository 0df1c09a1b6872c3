use Rattle.std.proofs.Common.{arith}
use Rattle.sl_preproc_directives.specs.Levels.{levels_of, whole}
use Rattle.sl_preproc_directives.proofs.LevelLemmas.{closes_all, closes_none, closes_one}
use Rattle.sl_preproc_directives.proofs.condition.close.Goals as goal

pub returns-in-Some : goal.returns-in-Some
returns-in-Some c = λ defs total b.
    (c.in-Some.ensures.goes_on defs (levels_of c.levels.levels) total (c.levels.invariant.behind defs total b), omega (arith, c.in-Some.ensures.shorter, c.levels.invariant.within))

pub returns-in_default-leave : goal.returns-in_default-leave
returns-in_default-leave c = λ defs total b.
    closes_all defs (levels_of c.levels.levels) (whole c.levels.inner c.levels.operand) c.whole-operand.result c.levels.rest.now total
    (c.in_default.ensures.goes_on defs (levels_of c.levels.levels) total (c.levels.invariant.behind defs total b)) c.in_default-leave.ensures c.whole-operand.ensures

pub returns-in_default-mark_at : goal.returns-in_default-mark_at
returns-in_default-mark_at c = λ defs total b.
    closes_none defs (levels_of c.levels.levels) (whole c.levels.inner c.levels.operand) c.whole-operand.result c.levels.rest.now total
    (c.in_default.ensures.goes_on defs (levels_of c.levels.levels) total (c.levels.invariant.behind defs total b)) c.in-Some-leave.around (levels_of c.leave.new.levels)
    c.in-Some-leave.ensures c.in_default-mark_at.ensures.read

pub levels-preserved : goal.levels-preserved
levels-preserved c = record {
  within = omega (arith, c.in-Some-mark_at.ensures.within, c.levels.invariant.within);
  behind = λ defs total b.
      closes_one defs (levels_of c.levels.levels) (whole c.levels.inner c.levels.operand) c.whole-operand.result c.levels.rest.now total
      (c.in_default.ensures.goes_on defs (levels_of c.levels.levels) total (c.levels.invariant.behind defs total b)) c.in-Some-leave.around (levels_of c.leave.new.levels)
      c.in-Some-mark_at.behind.now c.in-Some-leave.ensures c.whole-operand.ensures c.in-Some-mark_at.ensures.read (omega (arith, c.in-Some-mark_at.ensures.within));
}
