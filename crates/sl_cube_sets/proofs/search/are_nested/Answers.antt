use Rattle.std.proofs.Common.{◌≡◌, length, arith}
use Rattle.sl_cube_sets.proofs.LeftLemmas.{first_below, second_below}
use Rattle.sl_cube_sets.proofs.search.are_nested.Goals as goal

pub returns-then-below-clause-nested : goal.returns-then-below-clause-nested
returns-then-below-clause-nested c = λ t.
    let two : length c.args.left.now ≡ 2 = omega arith in
    first_below c.args.sets.now c.args.left.now c.index-left-0.result c.index-left-1.result two c.index-left-0.is c.index-left-1.is
    (c.in_ok-below.ensures.exact.0 c.if-below.true)

pub returns-clause-nested : goal.returns-clause-nested
returns-clause-nested c = λ t.
    let two : length c.args.left.now ≡ 2 = omega arith in
    second_below c.args.sets.now c.args.left.now c.index-left-0.result c.index-left-1.result two c.index-left-0.is c.index-left-1.is
    (c.in_ok-above.ensures.exact.0 t)
