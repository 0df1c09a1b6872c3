use Rattle.std.proofs.Common.{[], get_or, length}
use Rattle.sl_shape_tokens.specs.Nodes.{lists_of}
use Rattle.sl_shape_tokens.specs.Walks.{AreIn, Tells, work_left}
use Rattle.sl_shape_tokens.proofs.walking.split_of.Given as goal

abbrev pub invariant-steps : goal.invariant-steps
invariant-steps l = record {
  tells : Tells (lists_of l.nodes) (get_or (lists_of l.nodes) l.first []) (get_or (lists_of l.nodes) l.second []) [] l.walk;
  left_in : AreIn (length l.nodes) l.walk.left.items;
  right_in : AreIn (length l.nodes) l.walk.right.items;
}

abbrev pub decreases-steps : goal.decreases-steps
decreases-steps l = work_left l.nodes l.walk
