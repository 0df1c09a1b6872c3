use Rattle.std.proofs.Common.{refl}
use Rattle.sl_ast.specs.Views.{pattern_of}
use Rattle.sl_shape.proofs.HoldLemmas.{everywhere_holds, elsewhere_fails}
use Rattle.sl_shape.proofs.below.Below.demand_everywhere.Goals as goal

pub returns-in-Some-clause-fault : goal.returns-in-Some-clause-fault
returns-in-Some-clause-fault c = λ shapes s shows shape.
    let self = c.args.self.now in (
      refl,
      elsewhere_fails self.tables.now shapes self.hulls.now (pattern_of c.args.of.now) s shape _ shows.are c.in_ok-cubes.cubes.items
          (c.in_ok-cubes.ensures.points 0 refl) c.everywhere.result c.everywhere.ensures c.in-Some.field-0
          (rw c.deref.ensures.value at (rw c.in-Some.is at c.in_ok-point_outside.ensures)),
    )

pub returns-clause-holds : goal.returns-clause-holds
returns-clause-holds c = λ shapes s shows shape.
    let self = c.args.self.now in
    everywhere_holds self.tables.now shapes self.hulls.now (pattern_of c.args.of.now) s shape _ shows.are c.in_ok-cubes.cubes.items
    (c.in_ok-cubes.ensures.points 0 refl) c.everywhere.result c.everywhere.ensures
    (rw c.deref.ensures.value at (rw c.in-None.is at c.in_ok-point_outside.ensures))
