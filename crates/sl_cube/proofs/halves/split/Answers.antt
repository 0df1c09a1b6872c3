use Rattle.std.proofs.Common.{◌<◌, ◌^◌, arith}
use Rattle.std.specs.Int.{w64, w128}
use Rattle.sl_cube.proofs.HalfLemmas.{off_from_not}
use Rattle.sl_cube.proofs.OutsideLemmas.{MasksFit, open_of, opens, splits, single}
use Rattle.sl_cube.proofs.halves.split.Goals as goal

pub returns-in_err-bit : goal.returns-in_err-bit
returns-in_err-bit c =
    let fits : MasksFit c.args.cube.now = record { mask = omega arith; ctx_mask = omega arith } in
    rw c.from_residual.ensures (single c.args.cube.now fits c.in_err-bit.ensures)

pub parts-requires : goal.parts-requires
parts-requires c =
    let cube = c.args.cube.now in
    let fits : cube.mask < 2 ^ 128 = omega arith in
    let ctx_fits : cube.ctx_mask < 2 ^ 64 = omega arith in
    opens cube (open_of cube) c.in_ok-bit.bit (λ i on. off_from_not w128 cube.mask i fits on)
    (λ i on. off_from_not w64 cube.ctx_mask i ctx_fits on) c.in_ok-bit.ensures

pub returns : goal.returns
returns c =
    let cube = c.args.cube.now in
    let fits : MasksFit cube = record { mask = omega arith; ctx_mask = omega arith } in
    splits cube c.in_ok-bit.bit c.parts.result.0 c.parts.result.1 fits (λ i on. off_from_not w128 cube.mask i fits.mask on)
    (λ i on. off_from_not w64 cube.ctx_mask i fits.ctx_mask on) c.in_ok-bit.ensures c.parts.ensures.low c.parts.ensures.high
