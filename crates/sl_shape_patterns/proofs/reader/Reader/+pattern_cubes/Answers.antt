use Rattle.std.proofs.Common.{◌≡◌, sym, ap, subst, ◌∙◌}
use Rattle.sl_ast.specs.Trees.{Pattern}
use Rattle.sl_ast.specs.Views.{pattern_of, expression_of}
use Rattle.sl_ast.specs.declared.patterns.Pattern as p
use Rattle.sl_shape_constraints.specs.Sets.{IsUnionOf}
use Rattle.sl_shape_patterns.specs.Counts.{FitCount}
use Rattle.sl_shape_patterns.specs.Patterns.{PatternHolds, right_place, told}
use Rattle.sl_shape_patterns.specs.Views.{reading_of}
use Rattle.sl_shape_patterns.proofs.CountLemmas.{few_name, few_constraint, few_group, few_ellipsis, few_joined}
use Rattle.sl_shape_patterns.proofs.ViewLemmas.{seen_name, seen_constraint, seen_paren, seen_ellipsis, seen_joined}
use Rattle.sl_shape_patterns.proofs.UnionLemmas.{union_name, union_constraint, union_group, union_ellipsis, union_both}
use Rattle.sl_shape_patterns.proofs.reader.Reader.+pattern_cubes.Goals as goal

pub returns-in_ok-cubes-in-Name-clause-points : goal.returns-in_ok-cubes-in-Name-clause-points
returns-in_ok-cubes-in-Name-clause-points g t c = λ at e.
    let r = reading_of g.L.Lengths.bytes c.args.self.now in
    let cubes = c.in_ok-cubes-in-Name.cubes.items in
    subst (λ (x : Pattern). IsUnionOf (PatternHolds r x at) cubes) (sym (seen_name c.args.of.now c.in-Name.name c.in-Name.is))
    (union_name r c.in-Name.name.now c.args.place at cubes e c.in_ok-cubes-in-Name.ensures.points)

pub returns-in_ok-cubes-in-Constraint-clause-points : goal.returns-in_ok-cubes-in-Constraint-clause-points
returns-in_ok-cubes-in-Constraint-clause-points g t c = λ at e.
    let r = reading_of g.L.Lengths.bytes c.args.self.now in
    let cubes = c.in_ok-cubes-in-Constraint.cubes.items in
    subst (λ (x : Pattern). IsUnionOf (PatternHolds r x at) cubes)
    (sym (seen_constraint c.args.of.now c.in-Constraint.name c.in-Constraint.relation c.in-Constraint.value c.in-Constraint.is))
    (union_constraint r c.in-Constraint.name.now c.in-Constraint.relation (expression_of c.in-Constraint.value) c.args.place at cubes e c.in_ok-cubes-in-Constraint.ensures.points)

pub returns-in_ok-cubes-in-Paren-clause-points : goal.returns-in_ok-cubes-in-Paren-clause-points
returns-in_ok-cubes-in-Paren-clause-points g t c = λ at e.
    let r = reading_of g.L.Lengths.bytes c.args.self.now in
    let cubes = c.in_ok-cubes-in-Paren.cubes.items in
    subst (λ (x : Pattern). IsUnionOf (PatternHolds r x at) cubes) (sym (seen_paren c.args.of.now c.deref.result.now c.in-Paren.inner c.in-Paren.is c.deref.ensures))
    (union_group r (pattern_of c.deref.result.now) at cubes (c.in_ok-cubes-in-Paren.ensures.points at e))

pub returns-in_ok-cubes-in-Ellipsis-clause-points : goal.returns-in_ok-cubes-in-Ellipsis-clause-points
returns-in_ok-cubes-in-Ellipsis-clause-points g t c = λ at e.
    let r = reading_of g.L.Lengths.bytes c.args.self.now in
    let cubes = c.in_ok-cubes-in-Ellipsis.cubes.items in
    subst (λ (x : Pattern). IsUnionOf (PatternHolds r x at) cubes)
    (sym (seen_ellipsis c.args.of.now c.deref-in-Ellipsis.result.now c.in-Ellipsis.inner c.in-Ellipsis.is c.deref-in-Ellipsis.ensures))
    (union_ellipsis r (pattern_of c.deref-in-Ellipsis.result.now) at cubes (c.in_ok-cubes-in-Ellipsis.ensures.points at e))

pub returns-in_ok-cubes-in-Joined-clause-points : goal.returns-in_ok-cubes-in-Joined-clause-points
returns-in_ok-cubes-in-Joined-clause-points g t c = λ at e.
    let r = reading_of g.L.Lengths.bytes c.args.self.now in
    let cubes = c.in_ok-cubes-in-Joined.cubes.items in
    let left = c.deref-in-Joined.result.now in
    let right = c.deref-in-Joined-3.result.now in
    let same : c.deref-in-Joined-2.result.now ≡ left = c.deref-in-Joined-2.ensures ∙ sym c.deref-in-Joined.ensures in
    let from = c.in_ok-from-in-Joined.ensures at e ∙ ap (λ (y : p.Pattern). told (right_place c.in-Joined.op at (r.bytes (pattern_of y)))) same in
    subst (λ (x : Pattern). IsUnionOf (PatternHolds r x at) cubes)
    (sym (seen_joined c.args.of.now left right c.in-Joined.op c.in-Joined.left c.in-Joined.right c.in-Joined.is c.deref-in-Joined.ensures c.deref-in-Joined-3.ensures))
    (union_both r c.in-Joined.op (pattern_of left) (pattern_of right) at cubes c.in_ok-first-in-Joined.first.items c.in_ok-second-in-Joined.second.items
    (c.in_ok-first-in-Joined.ensures.points at e) (c.in_ok-second-in-Joined.ensures.points (right_place c.in-Joined.op at (r.bytes (pattern_of left))) from)
    (rw c.deref-in-Joined-4.ensures.value at c.in_ok-cubes-in-Joined.ensures.points))

-- ---- no more than the count

pub returns-in_ok-cubes-in-Name-clause-few : goal.returns-in_ok-cubes-in-Name-clause-few
returns-in_ok-cubes-in-Name-clause-few g t c =
    let tables = c.args.self.now.tables.now in
    let cubes = c.in_ok-cubes-in-Name.cubes.items in
    subst (λ (x : Pattern). FitCount tables x cubes) (sym (seen_name c.args.of.now c.in-Name.name c.in-Name.is))
    (few_name tables c.in-Name.name.now cubes c.in_ok-cubes-in-Name.ensures.few)

pub returns-in_ok-cubes-in-Constraint-clause-few : goal.returns-in_ok-cubes-in-Constraint-clause-few
returns-in_ok-cubes-in-Constraint-clause-few g t c =
    let tables = c.args.self.now.tables.now in
    let cubes = c.in_ok-cubes-in-Constraint.cubes.items in
    subst (λ (x : Pattern). FitCount tables x cubes)
    (sym (seen_constraint c.args.of.now c.in-Constraint.name c.in-Constraint.relation c.in-Constraint.value c.in-Constraint.is))
    (few_constraint tables c.in-Constraint.name.now c.in-Constraint.relation (expression_of c.in-Constraint.value) cubes c.in_ok-cubes-in-Constraint.ensures.few)

pub returns-in_ok-cubes-in-Paren-clause-few : goal.returns-in_ok-cubes-in-Paren-clause-few
returns-in_ok-cubes-in-Paren-clause-few g t c =
    let tables = c.args.self.now.tables.now in
    let cubes = c.in_ok-cubes-in-Paren.cubes.items in
    subst (λ (x : Pattern). FitCount tables x cubes) (sym (seen_paren c.args.of.now c.deref.result.now c.in-Paren.inner c.in-Paren.is c.deref.ensures))
    (few_group tables (pattern_of c.deref.result.now) cubes c.in_ok-cubes-in-Paren.ensures.few)

pub returns-in_ok-cubes-in-Ellipsis-clause-few : goal.returns-in_ok-cubes-in-Ellipsis-clause-few
returns-in_ok-cubes-in-Ellipsis-clause-few g t c =
    let tables = c.args.self.now.tables.now in
    let cubes = c.in_ok-cubes-in-Ellipsis.cubes.items in
    subst (λ (x : Pattern). FitCount tables x cubes)
    (sym (seen_ellipsis c.args.of.now c.deref-in-Ellipsis.result.now c.in-Ellipsis.inner c.in-Ellipsis.is c.deref-in-Ellipsis.ensures))
    (few_ellipsis tables (pattern_of c.deref-in-Ellipsis.result.now) cubes c.in_ok-cubes-in-Ellipsis.ensures.few)

pub returns-in_ok-cubes-in-Joined-clause-few : goal.returns-in_ok-cubes-in-Joined-clause-few
returns-in_ok-cubes-in-Joined-clause-few g t c =
    let tables = c.args.self.now.tables.now in
    let cubes = c.in_ok-cubes-in-Joined.cubes.items in
    let left = c.deref-in-Joined.result.now in
    let right = c.deref-in-Joined-3.result.now in
    subst (λ (x : Pattern). FitCount tables x cubes)
    (sym (seen_joined c.args.of.now left right c.in-Joined.op c.in-Joined.left c.in-Joined.right c.in-Joined.is c.deref-in-Joined.ensures c.deref-in-Joined-3.ensures))
    (few_joined tables c.in-Joined.op (pattern_of left) (pattern_of right) cubes c.in_ok-first-in-Joined.first.items c.in_ok-second-in-Joined.second.items
    c.in_ok-first-in-Joined.ensures.few c.in_ok-second-in-Joined.ensures.few
    (rw c.deref-in-Joined-4.ensures.value at c.in_ok-cubes-in-Joined.ensures.few))
