use Rattle.std.proofs.Common.{◌<◌, ◌≤◌, length, arith}
use Rattle.sl_asm_fit.proofs.RegionLemmas.{apart_one, set_one, past_zero, past_other}
use Rattle.sl_asm_fit.proofs.regions.narrow_one.Goals as goal

pub returns-in_default : goal.returns-in_default
returns-in_default c =
    let below : c.args.index < length c.args.region.now.items = omega arith in
    apart_one c.args.region.now.items c.args.index c.index.result.now c.args.cell.now below c.index.ensures c.in_default.ensures

pub returns-then-index-len : goal.returns-then-index-len
returns-then-index-len c =
    let below : c.args.index < length c.args.region.now.items = omega arith in
    set_one c.args.region.now.items c.args.index c.index.result.now c.args.cell.now c.in-Some.both below c.index.ensures c.in-Some.ensures

pub returns-then-cell-ne0 : goal.returns-then-cell-ne0
returns-then-cell-ne0 c =
    let past : length c.args.region.now.items ≤ c.args.index = omega arith in
    past_other c.args.region.now.items c.args.index c.args.cell.now past (λ e. omega (arith, e))

pub returns : goal.returns
returns c =
    let past : length c.args.region.now.items ≤ c.args.index = omega arith in
    past_zero c.args.region.now.items c.args.index c.args.cell.now past (omega arith)
