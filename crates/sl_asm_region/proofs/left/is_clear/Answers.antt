use Rattle.std.proofs.Common.{◌≡◌, length, arith}
use Rattle.sl_cube.proofs.OutsideLemmas.{keeps_meeting}
use Rattle.sl_asm_region.proofs.LeftLemmas.{clear_from}
use Rattle.sl_asm_region.proofs.left.is_clear.Goals as goal

pub returns : goal.returns
returns c = λ t.
    let none : length c.in_ok-near.near.items ≡ 0 = grind (arith, c.if-not-is_empty.ensures) in
    clear_from c.args.cubes.now c.args.others.now c.in_ok-near.near.items c.args.cube.now
    (keeps_meeting c.args.cube.now c.args.others.now c.in_ok-near.near.items c.in_ok-near.ensures) none (c.in_ok-covered.ensures.0 t)
