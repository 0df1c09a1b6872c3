use Rattle.std.proofs.Common.{◌≡◌, ◌+◌, length}
use Rattle.sl_cube.specs.Points.{IsIn}
use Rattle.sl_shape_constraints.proofs.LoopLemmas.{AddsFirst}
use Rattle.sl_shape_constraints.proofs.lists.put_all.Given as goal

abbrev pub invariant-loop-other : goal.invariant-loop-other
invariant-loop-other l = record {
  points : AddsFirst (λ p x. IsIn p x) l.others l.fn.cubes.items l.other-index l.cubes.items;
  few : length l.cubes.items ≡ length l.fn.cubes.items + l.other-index;
}
