use Rattle.sl_cube.proofs.OutsideLemmas.{reduces, keeps_meeting}
use Rattle.sl_cube.proofs.outside.reduced.Goals as goal

pub returns : goal.returns
returns c =
    let kept = c.in_ok-kept.kept.items in
    reduces c.args.cube.now c.args.others.now c.in-Some.rest kept c.in-Some.ensures (keeps_meeting c.in-Some.rest c.args.others.now kept c.in_ok-kept.ensures)
