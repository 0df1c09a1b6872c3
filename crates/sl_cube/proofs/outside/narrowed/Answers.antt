use Rattle.std.proofs.Common.{◌<◌, length, arith}
use Rattle.sl_cube.proofs.OutsideLemmas.{narrows_self, narrows_trans, narrows_rest, covers_back, covers_included}
use Rattle.sl_cube.proofs.outside.narrowed.Goals as goal

pub loop-other-init : goal.loop-other-init
loop-other-init c = narrows_self c.args.cube.now c.args.others.now

pub returns-in_err-rest : goal.returns-in_err-rest
returns-in_err-rest c =
    let others = c.args.others.now in
    let rest = c.loop-other.rest in
    let below : c.loop-other.other-index < length c.args.others.now = omega arith in
    rw c.from_residual.ensures (covers_back c.args.cube.now others rest c.loop-other.invariant
    (covers_included rest others c.loop-other.other-index c.other-item.result below c.other-item.is c.in_err-rest.ensures))

pub loop-other-preserved : goal.loop-other-preserved
loop-other-preserved c =
    let others = c.args.others.now in
    let rest = c.loop-other.rest in
    let below : c.loop-other.other-index < length c.args.others.now = omega arith in
    narrows_trans c.args.cube.now others rest c.in_ok-rest.rest c.loop-other.invariant
    (narrows_rest rest others c.loop-other.other-index c.other-item.result c.in_ok-rest.rest below c.other-item.is c.in_ok-rest.ensures)
