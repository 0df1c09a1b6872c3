use Rattle.std.proofs.Common.{◌+◌, ◌<◌, ◌≤◌, ◌⊎◌, length, arith}
use Rattle.sl_shape_constraints.proofs.LoopLemmas.{AnyFirst, any_of_first, first_of_any, one_more_first, one_less_first}
use Rattle.sl_shape_patterns.specs.Hulls.{TableHas}
use Rattle.sl_cube_sets.specs.Sets.{HasAt}
use Rattle.sl_cube_sets.specs.Unions.{has_set}
use Rattle.sl_shape_patterns.proofs.HullLemmas.{encloses, hull_either, found_same}
use Rattle.sl_shape_patterns.proofs.hulls.table_hull.Goals as goal

pub each-preserved : goal.each-preserved
each-preserved c =
    let sets = c.args.sets.now in
    let ids = c.args.constructors.now in
    let n = c.each.index in
    let id = c.index-constructors-index.result in
    let below : n < length ids = omega arith in
    found_same (λ p. AnyFirst (λ x. HasAt has_set sets p x) ids n ⊎ HasAt has_set sets p id) (λ p. AnyFirst (λ x. HasAt has_set sets p x) ids (n + 1)) c.joined_hull-hull.result
    (λ p range x. one_more_first (λ y. HasAt has_set sets p y) ids n id below c.index-constructors-index.is x)
    (λ p range x. one_less_first (λ y. HasAt has_set sets p y) ids n id below c.index-constructors-index.is x)
    (hull_either (λ p. AnyFirst (λ x. HasAt has_set sets p x) ids n) (λ p. HasAt has_set sets p id) c.each.hull c.set_hull.result
    (encloses (λ p. AnyFirst (λ x. HasAt has_set sets p x) ids n) c.each.hull c.each.invariant)
    (encloses (λ p. HasAt has_set sets p id) c.set_hull.result c.set_hull.ensures) c.joined_hull-hull.result c.joined_hull-hull.ensures)

pub returns : goal.returns
returns c =
    let sets = c.args.sets.now in
    let ids = c.args.constructors.now in
    let all : length ids ≤ c.each.index = omega arith in
    found_same (λ p. AnyFirst (λ id. HasAt has_set sets p id) ids c.each.index) (TableHas sets ids) c.each.hull
    (λ p range x. any_of_first (λ id. HasAt has_set sets p id) ids c.each.index x)
    (λ p range x. first_of_any (λ id. HasAt has_set sets p id) ids c.each.index all x) c.each.invariant
