use Rattle.std.proofs.Common.{arith}
use Rattle.sl_preproc_directives.specs.Held.{values_of}
use Rattle.sl_preproc_directives.specs.Levels.{levels_of}
use Rattle.sl_preproc_directives.proofs.LevelLemmas.{reads_not, reads_group, reads_simple, reads_none, leaves_within}
use Rattle.sl_preproc_directives.proofs.condition.read_step.Goals as goal

pub returns-in-Some : goal.returns-in-Some
returns-in-Some c = λ total r. (
  rw c.flipped.ensures (reads_not (values_of c.args.defs.now) c.args.level (levels_of c.args.levels.now) c.args.text.now total c.in-Some.operand.now c.in-Some.ensures.read (omega (arith, c.in-Some.ensures.within)) r),
  omega (arith, c.in-Some.ensures.within),
)

pub returns-in-Some-mark_at : goal.returns-in-Some-mark_at
returns-in-Some-mark_at c = λ total r. (
  rw (c.new_level.ensures, c.in_ok-enter.ensures) (reads_group (values_of c.args.defs.now) c.args.level (levels_of c.args.levels.now) c.args.text.now total c.in-Some-mark_at.inside.now
      c.in_default.ensures.read c.in-Some-mark_at.ensures.read (omega (arith, c.in-Some-mark_at.ensures.within)) r),
  omega (arith, c.in-Some-mark_at.ensures.within),
)

pub returns-in-Some-simple_at : goal.returns-in-Some-simple_at
returns-in-Some-simple_at c = λ total r.
    leaves_within (values_of c.args.defs.now) (levels_of c.close.new.levels) c.in-Some-simple_at.behind.now c.args.text.now total c.close.result c.in-Some-simple_at.ensures.within
    (c.close.ensures (values_of c.args.defs.now) total (reads_simple (values_of c.args.defs.now) c.args.level (levels_of c.args.levels.now) c.args.text.now total
    c.in-Some-simple_at.verdict c.in-Some-simple_at.behind.now c.in_default.ensures.read c.in_default-mark_at.ensures.read c.in-Some-simple_at.ensures.read c.in-Some-simple_at.ensures.within r))

pub returns-in-None : goal.returns-in-None
returns-in-None c = λ total r.
    reads_none (values_of c.args.defs.now) c.args.level (levels_of c.args.levels.now) c.args.text.now total c.in_default.ensures.read c.in_default-mark_at.ensures.read c.in-None.ensures.read r
