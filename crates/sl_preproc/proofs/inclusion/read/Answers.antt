use Rattle.std.proofs.Common.{ap}
use Rattle.sl_preproc.specs.Stacks.{stack_of}
use Rattle.sl_preproc.specs.Works.{work_of}
use Rattle.sl_preproc.specs.Expansion.{on_line}
use Rattle.sl_preproc.specs.ByLines.{Step}
use Rattle.sl_preproc.proofs.SoundLemmas.{read_whole}
use Rattle.sl_preproc.proofs.inclusion.read.Goals as goal

pub returns-in-Ok-clause-whole : goal.returns-in-Ok-clause-whole
returns-in-Ok-clause-whole c = λ free w.
    read_whole c.args.name.now c.args.line c.args.text.now (stack_of c.args.groups.now) (work_of c.args.work.now) _ _ _
    (ap (λ (r : Step). (on_line c.args.name.now c.args.line r).result) c.in-Ok.ensures) free w
