use Rattle.sl_shape_constraints.proofs.LoopLemmas.{AnyFirst}
use Rattle.sl_shape_patterns.specs.Hulls.{IsHullOrNone}
use Rattle.sl_cube_sets.specs.Sets.{HasAt}
use Rattle.sl_cube_sets.specs.Unions.{has_set}
use Rattle.sl_shape_patterns.proofs.hulls.table_hull.Given as goal

abbrev pub invariant-each : goal.invariant-each
invariant-each l = IsHullOrNone (λ p. AnyFirst (λ id. HasAt has_set l.sets p id) l.constructors l.index) l.hull
