use Rattle.sl_cube_sets.proofs.ReportLemmas.{within_unless_not}
use Rattle.sl_cube_sets.proofs.report.difference.Goals as goal

pub returns-in_default : goal.returns-in_default
returns-in_default c =
    let within = rw c.in_default.is at c.in_ok-in_first.ensures in
    (within, within_unless_not c.args.second.now c.args.first.now (λ out. c.requires.below (within, out)))

pub returns-in_default-in_second : goal.returns-in_default-in_second
returns-in_default-in_second c =
    let within = rw c.in_default-in_second.is at c.in_ok-in_second.ensures in
    (within_unless_not c.args.first.now c.args.second.now (λ out. c.requires.above (within, out)), within)
