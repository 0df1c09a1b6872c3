use Rattle.sl_shape_constraints.specs.Homes.{HasCodeIn}
use Rattle.sl_shape_constraints.specs.Places.{IsSeenIn, seen}
use Rattle.sl_shape_constraints.proofs.SetLemmas.{adds_same}
use Rattle.sl_shape_constraints.proofs.ShiftLemmas.{seen_range}
use Rattle.sl_shape_constraints.proofs.cubes.put_block.Goals as goal

pub returns-in_ok-put_moved-clause-points : goal.returns-in_ok-put_moved-clause-points
returns-in_ok-put_moved-clause-points c =
    adds_same c.args.cubes.now.items c.put_moved.new.cubes.items (IsSeenIn c.args.place c.in-Some.cube)
    (λ p. HasCodeIn c.args.bits.now c.args.block (seen c.args.place p))
    (λ p range inside. (c.in-Some.ensures (seen c.args.place p) (seen_range c.args.place p range)).0 inside)
    (λ p range holds. (c.in-Some.ensures (seen c.args.place p) (seen_range c.args.place p range)).1 holds) c.in_ok-put_moved.ensures.points
