use Rattle.std.proofs.Common.{◌-◌, ◌/◌, ◌<◌, ◌≤◌, ◌^◌, arith}
use Rattle.std.specs.Int.{trailing_zeros, w128}
use Rattle.sl_asm_fit.proofs.BitLemmas.{none_fixed, past_fixed}
use Rattle.sl_asm_fit.proofs.RegionLemmas.{NarrowsFirst, first_all, first_misses, first_more, first_none}
use Rattle.sl_cube.proofs.BitLemmas.{agrees_from_and, and_from_agrees}
use Rattle.sl_asm_fit.proofs.regions.narrowed.Goals as goal

pub returns-then-context-cube : goal.returns-then-context-cube
returns-then-context-cube c = λ xs inside reads.
    let cube = c.args.cube.now in
    c.if-context-cube.true (and_from_agrees cube.ctx_mask cube.ctx_value c.args.context cube.ctx_within reads.1)

pub returns-then-not-narrow_one : goal.returns-then-not-narrow_one
returns-then-not-narrow_one c =
    let below : c.loop-index.index < 16 = omega arith in
    first_misses c.args.region.now c.args.at c.args.context c.args.cube.now c.loop-index.narrow.items c.loop-index.index c.cell_of-cell.result
    c.requires.place below c.cell_of-cell.ensures c.if-not-narrow_one.ensures c.loop-index.invariant

pub loop-index-preserved : goal.loop-index-preserved
loop-index-preserved c =
    let below : c.loop-index.index < 16 = omega arith in
    first_more c.args.region.now c.args.at c.args.cube.now c.loop-index.narrow.items c.narrow_one.new.region.items c.loop-index.index c.cell_of-cell.result
    below c.cell_of-cell.ensures c.if-not-narrow_one.ensures c.loop-index.invariant

pub returns-then-cube-eq0 : goal.returns-then-cube-eq0
returns-then-cube-eq0 c =
    let cube = c.args.cube.now in
    let region = c.args.region.now in
    let fits : cube.mask < 2 ^ 128 = omega arith in
    let same : NarrowsFirst region c.args.at cube 0 c.in_ok-narrow.narrow.items = rw c.in_ok-narrow.ensures (first_none region c.args.at cube) in
    first_all region c.args.at c.args.context cube c.in_ok-narrow.narrow.items 0 c.requires.place (λ k x from below. none_fixed cube k x c.if-cube-eq0.true) fits
    (agrees_from_and cube.ctx_mask cube.ctx_value c.args.context c.if-context-cube.false) same

pub returns : goal.returns
returns c =
    let cube = c.args.cube.now in
    let fits : cube.mask < 2 ^ 128 = omega arith in
    let some : 0 < cube.mask = omega (arith, c.if-cube-eq0.false) in
    let end : 16 - trailing_zeros w128 cube.mask / 8 ≤ c.loop-index.index = omega arith in
    first_all c.args.region.now c.args.at c.args.context cube c.loop-index.narrow.items c.loop-index.index c.requires.place
    (λ k x from below. past_fixed cube c.loop-index.index k x some fits end from below) fits
    (agrees_from_and cube.ctx_mask cube.ctx_value c.args.context c.if-context-cube.false) c.loop-index.invariant
