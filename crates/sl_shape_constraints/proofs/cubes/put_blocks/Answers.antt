use Rattle.std.proofs.Common.{◌<◌, ◌≤◌, length, get_or, arith}
use Rattle.std.specs.List.{Any}
use Rattle.std.proofs.lemmas.List.{get_or_default}
use Rattle.sl_shape_blocks.specs.Blocks.{block}
use Rattle.sl_shape_constraints.specs.Homes.{HasCodeIn}
use Rattle.sl_shape_constraints.specs.Places.{seen}
use Rattle.sl_shape_constraints.proofs.LoopLemmas.{first_none, first_more, first_all}
use Rattle.sl_shape_constraints.proofs.cubes.put_blocks.Goals as goal

pub loop-block-init : goal.loop-block-init
loop-block-init c = record {
  points = first_none (λ p x. HasCodeIn c.args.bits.now x (seen c.args.place p)) c.args.blocks.now c.args.cubes.now.items;
  few = omega arith;
}

pub loop-block-preserved : goal.loop-block-preserved
loop-block-preserved c =
    let blocks = c.args.blocks.now in
    let below : c.loop-block.block-index < length blocks = omega arith in
    let here = get_or blocks c.loop-block.block-index (block 0 0) in
    record {
      points = first_more (λ p x. HasCodeIn c.args.bits.now x (seen c.args.place p)) blocks c.args.cubes.now.items c.loop-block.cubes.items
          c.put_block.new.cubes.items c.loop-block.block-index here below (get_or_default blocks c.loop-block.block-index (block 0 0) here below)
          c.loop-block.invariant.points c.in_ok-put_block.ensures.points;
      few = omega (arith, c.loop-block.invariant.few, c.in_ok-put_block.ensures.few);
    }

pub returns-clause-points : goal.returns-clause-points
returns-clause-points c =
    let all : length c.args.blocks.now ≤ c.loop-block.block-index = omega arith in
    first_all (λ p x. HasCodeIn c.args.bits.now x (seen c.args.place p)) c.args.blocks.now c.args.cubes.now.items c.loop-block.cubes.items
    (λ p. Any (λ block. HasCodeIn c.args.bits.now block (seen c.args.place p)) c.args.blocks.now) c.loop-block.block-index all
    (λ p q. q) (λ p x. x) c.loop-block.invariant.points
