use Rattle.std.proofs.Common.{List, Option, length, sym, ap, subst, arith}
use Rattle.sl_shape_constraints.specs.Values.{Constraint}
use Rattle.sl_cube.specs.declared.Cube.{Cube}
use Rattle.sl_shape_patterns.specs.Counts.{IfCount}
use Rattle.sl_shape_patterns.proofs.sets.constraint_cubes.Goals as goal

pub returns-clause-few : goal.returns-clause-few
returns-clause-few c = λ count is.
    let has = subst (λ (o : Option Constraint). IfCount o count) (sym c.in-Some.ensures) is in
    let few = c.in_ok-put_cubes.ensures.few count has in
    omega (arith, few, ap (λ (xs : List Cube). length xs) c.new-cubes.ensures.items)
