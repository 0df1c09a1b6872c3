use Rattle.std.specs.List.{Any}
use Rattle.sl_shape_constraints.specs.Homes.{HasCodeIn}
use Rattle.sl_shape_constraints.specs.Places.{seen}
use Rattle.sl_shape_constraints.specs.Values.{ConstraintHolds}
use Rattle.sl_shape_constraints.specs.Views.{constraint_of}
use Rattle.sl_shape_constraints.proofs.SetLemmas.{adds_same}
use Rattle.sl_shape_constraints.proofs.ValueLemmas.{holds_in_block, block_of_point}
use Rattle.sl_shape_constraints.proofs.constraint.Constraint.put_cubes.Goals as goal

pub returns-clause-points : goal.returns-clause-points
returns-clause-points c =
    let self = constraint_of c.args.self.now in
    adds_same c.args.cubes.now.items c.put_blocks.new.cubes.items
    (λ p. Any (λ b. HasCodeIn c.bits.result b (seen c.args.place p)) c.in_ok-blocks.blocks.items) (λ p. ConstraintHolds self (seen c.args.place p))
    (λ p range any. holds_in_block self c.bits.result (seen c.args.place p) c.bits.ensures c.in_ok-blocks.blocks.items c.in_ok-blocks.ensures any)
    (λ p range holds. block_of_point self c.bits.result (seen c.args.place p) c.bits.ensures c.in_ok-blocks.blocks.items c.in_ok-blocks.ensures holds)
    (rw c.deref.ensures.value at c.in_ok-put_blocks.ensures.points)
