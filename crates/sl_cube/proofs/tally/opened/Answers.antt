use Rattle.std.proofs.Common.{◌<◌, ◌^◌, arith}
use Rattle.sl_cube.proofs.TallyLemmas.{open_bits, fixes_no_more}
use Rattle.sl_cube.proofs.tally.opened.Goals as goal

pub returns-clause-open : goal.returns-clause-open
returns-clause-open c =
    let fits : c.args.region.now.mask < 2 ^ 128 = omega arith in
    let ctx_fits : c.args.region.now.ctx_mask < 2 ^ 64 = omega arith in
    open_bits c.args.region.now c.args.cube.now fits ctx_fits

pub returns-clause-none : goal.returns-clause-none
returns-clause-none c = λ none.
    let fits : c.args.region.now.mask < 2 ^ 128 = omega arith in
    let ctx_fits : c.args.region.now.ctx_mask < 2 ^ 64 = omega arith in
    let cube_fits : c.args.cube.now.mask < 2 ^ 128 = omega arith in
    let cube_ctx_fits : c.args.cube.now.ctx_mask < 2 ^ 64 = omega arith in
    fixes_no_more c.args.region.now c.args.cube.now fits ctx_fits cube_fits cube_ctx_fits none.0 none.1
