use Rattle.sl_cube_sets.proofs.ReportLemmas.{set_at, not_properly, differ_at}
use Rattle.sl_cube_sets.proofs.report.apart_at.Goals as goal

pub difference-requires-clause-below : goal.difference-requires-clause-below
difference-requires-clause-below c =
    let sets = c.args.sets.now in
    let point = c.args.point.now in
    not_properly sets c.args.first c.args.second c.index-sets-first.result c.index-sets-second.result (set_at sets point c.args.first c.index-sets-first.result c.requires.first c.index-sets-first.is)
    (set_at sets point c.args.second c.index-sets-second.result c.requires.second c.index-sets-second.is) c.requires.not_below

pub difference-requires-clause-above : goal.difference-requires-clause-above
difference-requires-clause-above c =
    let sets = c.args.sets.now in
    let point = c.args.point.now in
    not_properly sets c.args.second c.args.first c.index-sets-second.result c.index-sets-first.result (set_at sets point c.args.second c.index-sets-second.result c.requires.second c.index-sets-second.is)
    (set_at sets point c.args.first c.index-sets-first.result c.requires.first c.index-sets-first.is) c.requires.not_above

pub returns : goal.returns
returns c =
    let sets = c.args.sets.now in
    let point = c.args.point.now in
    differ_at sets c.args.first c.args.second c.index-sets-first.result c.index-sets-second.result c.in_ok-apart.apart
    (set_at sets point c.args.first c.index-sets-first.result c.requires.first c.index-sets-first.is)
    (set_at sets point c.args.second c.index-sets-second.result c.requires.second c.index-sets-second.is) c.in_ok-apart.ensures
