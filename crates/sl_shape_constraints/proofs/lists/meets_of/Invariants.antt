use Rattle.std.proofs.Common.{◌≤◌, ◌*◌, [], length}
use Rattle.sl_cube.specs.Points.{IsIn, IsInSome}
use Rattle.sl_shape_constraints.proofs.LoopLemmas.{AddsFirst}
use Rattle.sl_shape_constraints.proofs.lists.meets_of.Given as goal

abbrev pub invariant-loop-cube : goal.invariant-loop-cube
invariant-loop-cube l = record {
  points : AddsFirst (λ p x. IsIn p x × IsInSome l.fn.right p) l.left [] l.cube-index l.met.items;
  few : length l.met.items ≤ l.cube-index * length l.fn.right;
}
