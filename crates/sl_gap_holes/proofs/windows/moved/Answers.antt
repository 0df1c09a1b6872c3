use Rattle.std.proofs.Common.{◌*◌, ◌/◌, ◌^◌, bit_and, refl, arith}
use Rattle.sl_gap_holes.proofs.WindowLemmas.{is_moved, both_masked}
use Rattle.sl_shape_constraints.proofs.ShiftLemmas.{down_within}
use Rattle.sl_gap_holes.proofs.windows.moved.Goals as goal

pub invariant_of-result : goal.invariant_of-result
invariant_of-result c = record {
  within = down_within c.args.cube.now.value c.args.cube.now.mask (8 * c.args.place) c.args.cube.now.within;
  ctx_within = c.args.cube.now.ctx_within;
}

pub invariant_of-result-2 : goal.invariant_of-result-2
invariant_of-result-2 c = record {
  within = both_masked c.args.cube.now.value c.args.cube.now.mask c.low_bits-low.result c.args.cube.now.within;
  ctx_within = refl;
}

pub returns : goal.returns
returns c =
    is_moved c.args.place c.args.cube.now c.low_bits-low.result (c.args.cube.now.mask / 2 ^ (8 * c.args.place)) (c.args.cube.now.value / 2 ^ (8 * c.args.place))
    (bit_and c.args.cube.now.mask c.low_bits-low.result) (bit_and c.args.cube.now.value c.low_bits-low.result) c.requires (omega arith) c.low_bits-low.ensures refl refl refl refl
