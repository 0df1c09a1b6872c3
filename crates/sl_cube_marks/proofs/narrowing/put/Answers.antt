use Rattle.std.proofs.Common.{◌≡◌, length, refl, arith}
use Rattle.sl_cube_marks.proofs.RestLemmas.{within_nothing, within_pushed}
use Rattle.sl_cube_marks.proofs.narrowing.put.Goals as goal

pub returns-then-len-eq0 : goal.returns-then-len-eq0
returns-then-len-eq0 c =
    let none : length c.in_ok-cubes.cubes.items ≡ 0 = omega arith in
    within_nothing c.args.region.now c.args.set c.args.cubes.now c.in_ok-cubes.cubes.items c.args.kept.now.items c.in_ok-cubes.ensures none

pub returns : goal.returns
returns c =
    within_pushed c.args.region.now c.args.set c.args.cubes.now c.args.kept.now.items c.push.new.self.items
    (record { set = c.args.set; cubes = c.in_ok-cubes.cubes }) c.in_ok-cubes.ensures refl c.in_ok-push.ensures.items
