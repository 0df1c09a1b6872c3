use Rattle.sl_cube.proofs.OutsideLemmas.{keeps_meeting}
use Rattle.sl_cube_marks.proofs.RestLemmas.{keeps_whole}
use Rattle.sl_cube_marks.proofs.narrowing.narrowed.Goals as goal

pub returns-then-covered : goal.returns-then-covered
returns-then-covered c =
    let fills = rw c.deref.ensures.value at c.in_ok-covered.ensures in
    keeps_whole c.args.region.now c.args.cubes.now c.in_ok-met.met.items c.push.new.self.items c.in_ok-met.ensures (fills c.if-covered.true)
    (rw c.new-whole.ensures.items at c.in_ok-push.ensures.items)

pub returns : goal.returns
returns c = keeps_meeting c.args.region.now c.args.cubes.now c.in_ok-met.met.items c.in_ok-met.ensures
