use Rattle.std.proofs.Common.{◌≤◌, length, sym, subst, arith}
use Rattle.sl_ast.specs.declared.patterns.PatternOp.{PatternOp}
use Rattle.sl_cube.specs.Points.{IsInSome}
use Rattle.sl_shape_patterns.specs.Patterns.{JoinedHolds}
use Rattle.sl_shape_constraints.specs.Sets.{IsUnionOf}
use Rattle.sl_shape_patterns.specs.Counts.{joined_count}
use Rattle.sl_shape_patterns.proofs.CountLemmas.{few_product}
use Rattle.sl_shape_patterns.proofs.sets.joined_cubes.Goals as goal

pub returns-in_ok-met-in-And-clause-points : goal.returns-in_ok-met-in-And-clause-points
returns-in_ok-met-in-And-clause-points c =
    subst (λ (o : PatternOp). IsUnionOf (λ p. JoinedHolds o (IsInSome c.args.left.items p) (IsInSome c.args.right.now p)) c.in_ok-met-in-And.met.items) (sym c.in-And.is)
    (rw c.deref.ensures.value at c.in_ok-met-in-And.ensures.points)

pub returns-in_ok-met-in-Then-clause-points : goal.returns-in_ok-met-in-Then-clause-points
returns-in_ok-met-in-Then-clause-points c =
    subst (λ (o : PatternOp). IsUnionOf (λ p. JoinedHolds o (IsInSome c.args.left.items p) (IsInSome c.args.right.now p)) c.in_ok-met-in-Then.met.items) (sym c.in-Then.is)
    (rw c.deref-in-Then.ensures.value at c.in_ok-met-in-Then.ensures.points)

pub returns-in_ok-put_all-in-Or-clause-points : goal.returns-in_ok-put_all-in-Or-clause-points
returns-in_ok-put_all-in-Or-clause-points c =
    subst (λ (o : PatternOp). IsUnionOf (λ p. JoinedHolds o (IsInSome c.args.left.items p) (IsInSome c.args.right.now p)) c.put_all.new.cubes.items) (sym c.in-Or.is)
    (λ p range. c.in_ok-put_all-in-Or.ensures.points p range)

pub returns-in_ok-met-in-And-clause-few : goal.returns-in_ok-met-in-And-clause-few
returns-in_ok-met-in-And-clause-few c = λ a b left right.
    subst (λ (o : PatternOp). length c.in_ok-met-in-And.met.items ≤ joined_count o a b) (sym c.in-And.is)
    (few_product (length c.in_ok-met-in-And.met.items) (length c.args.left.items) (length c.args.right.now) a b (rw c.deref.ensures.value at c.in_ok-met-in-And.ensures.few) left right)

pub returns-in_ok-met-in-Then-clause-few : goal.returns-in_ok-met-in-Then-clause-few
returns-in_ok-met-in-Then-clause-few c = λ a b left right.
    subst (λ (o : PatternOp). length c.in_ok-met-in-Then.met.items ≤ joined_count o a b) (sym c.in-Then.is)
    (few_product (length c.in_ok-met-in-Then.met.items) (length c.args.left.items) (length c.args.right.now) a b (rw c.deref-in-Then.ensures.value at c.in_ok-met-in-Then.ensures.few) left right)

pub returns-in_ok-put_all-in-Or-clause-few : goal.returns-in_ok-put_all-in-Or-clause-few
returns-in_ok-put_all-in-Or-clause-few c = λ a b left right.
    subst (λ (o : PatternOp). length c.put_all.new.cubes.items ≤ joined_count o a b) (sym c.in-Or.is)
    (omega (arith, c.in_ok-put_all-in-Or.ensures.few, left, right))
