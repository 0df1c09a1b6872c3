use Rattle.std.proofs.Common.{◌≤◌, ◌+◌, length}
use Rattle.sl_cube.specs.Points.{IsIn}
use Rattle.sl_shape_constraints.proofs.LoopLemmas.{AddsFirst}
use Rattle.sl_shape_constraints.proofs.lists.put_meets.Given as goal

abbrev pub invariant-loop-other : goal.invariant-loop-other
invariant-loop-other l = record {
  points : AddsFirst (λ p x. IsIn p l.fn.cube × IsIn p x) l.others l.fn.met.items l.other-index l.met.items;
  few : length l.met.items ≤ length l.fn.met.items + l.other-index;
}
