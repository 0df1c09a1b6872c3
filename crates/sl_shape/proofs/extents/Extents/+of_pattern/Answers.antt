use Rattle.std.proofs.Common.{rules, ◌≡◌, sym, subst}
use Rattle.sl_ast.specs.Trees.{Pattern}
use Rattle.sl_ast.specs.Views.{pattern_of, expression_of}
use Rattle.sl_shape_patterns.proofs.ViewLemmas.{seen_name, seen_constraint, seen_paren, seen_ellipsis, seen_joined}
use Rattle.sl_shape.specs.Extents.{extent_of, kept}
use Rattle.sl_shape.specs.Views.{shapes_of}
use Rattle.sl_shape.proofs.ExtentLemmas.{level_name, level_constraint, level_group, level_ellipsis, level_joined}
use Rattle.sl_shape.proofs.extents.Extents.+of_pattern.Goals as goal

pub returns-in-Name : goal.returns-in-Name
returns-in-Name t c =
    let self = c.args.self.now in
    subst (λ (x : Pattern). c.of_name.result ≡ kept (extent_of self.tables.now (shapes_of self) x)) (sym (seen_name c.args.of.now c.in-Name.name c.in-Name.is))
    (level_name self.tables.now (shapes_of self) c.in-Name.name.now c.of_name.result c.of_name.ensures)

pub returns-in-Constraint : goal.returns-in-Constraint
returns-in-Constraint t c =
    let self = c.args.self.now in
    subst (λ (x : Pattern). c.of_constraint.result ≡ kept (extent_of self.tables.now (shapes_of self) x))
    (sym (seen_constraint c.args.of.now c.in-Constraint.name c.in-Constraint.field-1 c.in-Constraint.field-2 c.in-Constraint.is))
    (level_constraint self.tables.now (shapes_of self) c.in-Constraint.name.now c.in-Constraint.field-1 (expression_of c.in-Constraint.field-2) c.of_constraint.result c.of_constraint.ensures)

pub returns-in-Paren : goal.returns-in-Paren
returns-in-Paren t c =
    let self = c.args.self.now in
    subst (λ (x : Pattern). c.of_pattern.result ≡ kept (extent_of self.tables.now (shapes_of self) x))
    (sym (seen_paren c.args.of.now c.deref.result.now c.in-Paren.inner c.in-Paren.is c.deref.ensures))
    (level_group self.tables.now (shapes_of self) (pattern_of c.deref.result.now) c.of_pattern.result c.of_pattern.ensures)

pub returns-in-Ellipsis : goal.returns-in-Ellipsis
returns-in-Ellipsis t c =
    let self = c.args.self.now in
    let inner = c.deref-in-Ellipsis.result.now in
    subst (λ (x : Pattern). c.with_kind.result ≡ kept (extent_of self.tables.now (shapes_of self) x))
    (sym (seen_ellipsis c.args.of.now inner c.in-Ellipsis.inner c.in-Ellipsis.is c.deref-in-Ellipsis.ensures))
    (level_ellipsis self.tables.now (shapes_of self) (pattern_of inner) c.with_kind.result
    (search rules))

pub returns-in-Joined : goal.returns-in-Joined
returns-in-Joined t c =
    let self = c.args.self.now in
    let left = c.deref-in-Joined.result.now in
    let right = c.deref-in-Joined-2.result.now in
    subst (λ (x : Pattern). c.joined.result ≡ kept (extent_of self.tables.now (shapes_of self) x))
    (sym (seen_joined c.args.of.now left right c.in-Joined.op c.in-Joined.left c.in-Joined.right c.in-Joined.is c.deref-in-Joined.ensures c.deref-in-Joined-2.ensures))
    (level_joined self.tables.now (shapes_of self) c.in-Joined.op (pattern_of left) (pattern_of right) c.joined.result
    (c.joined.ensures (extent_of self.tables.now (shapes_of self) (pattern_of left)) (extent_of self.tables.now (shapes_of self) (pattern_of right)) c.of_pattern-first.ensures c.of_pattern-second.ensures))
