use Rattle.sleigh.proofs.HandedLemmas.{whole_not}
use Rattle.sl_tool.specs.declared.status.Status.TheVariants.{WriteFault}
use Rattle.sleigh.proofs.calling.handed_on.Goals as goal

pub returns-in-Ok-clause-sink : goal.returns-in-Ok-clause-sink
returns-in-Ok-clause-sink g c =
    let u = c.flush.ensures.sink in
    record { never_falls = u.never_falls; failed = λ e. absurd (whole_not c.args.status WriteFault c.requires (λ n. n) e); goes_on = u.goes_on }
