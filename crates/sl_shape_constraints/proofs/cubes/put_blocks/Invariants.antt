use Rattle.std.proofs.Common.{◌≤◌, ◌+◌, length}
use Rattle.sl_shape_constraints.specs.Homes.{HasCodeIn}
use Rattle.sl_shape_constraints.specs.Places.{seen}
use Rattle.sl_shape_constraints.proofs.LoopLemmas.{AddsFirst}
use Rattle.sl_shape_constraints.proofs.cubes.put_blocks.Given as goal

abbrev pub invariant-loop-block : goal.invariant-loop-block
invariant-loop-block l = record {
  points : AddsFirst (λ p x. HasCodeIn l.fn.bits x (seen l.fn.place p)) l.blocks l.fn.cubes.items l.block-index l.cubes.items;
  few : length l.cubes.items ≤ length l.fn.cubes.items + l.block-index;
}
