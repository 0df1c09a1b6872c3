use Rattle.std.proofs.Common.{sym, subst}
use Rattle.sl_ast.specs.Trees.{Pattern}
use Rattle.sl_ast.specs.Views.{pattern_of, expression_of}
use Rattle.sl_shape_patterns.specs.Counts.{HasPatternCount, IsTold}
use Rattle.sl_shape_patterns.proofs.ViewLemmas.{seen_name, seen_constraint, seen_paren, seen_ellipsis, seen_joined}
use Rattle.sl_shape_patterns.proofs.CountLemmas.{count_name, count_constraint, count_group, count_ellipsis, count_joined}
use Rattle.sl_shape_patterns.proofs.counts.+pattern_count.Goals as goal

pub returns-in-Name : goal.returns-in-Name
returns-in-Name t c =
    subst (λ (x : Pattern). IsTold (HasPatternCount c.args.t.now x) 1) (sym (seen_name c.args.of.now c.in-Name.field-0 c.in-Name.is))
    (count_name c.args.t.now c.in-Name.field-0.now)

pub returns-in_ok-count-in-Constraint : goal.returns-in_ok-count-in-Constraint
returns-in_ok-count-in-Constraint t c =
    let count = c.in_ok-count-in-Constraint.count in
    subst (λ (x : Pattern). IsTold (HasPatternCount c.args.t.now x) count)
    (sym (seen_constraint c.args.of.now c.in-Constraint.name c.in-Constraint.relation c.in-Constraint.value c.in-Constraint.is))
    (count_constraint c.args.t.now c.in-Constraint.name.now c.in-Constraint.relation (expression_of c.in-Constraint.value) count c.in_ok-count-in-Constraint.ensures)

pub returns-in_ok-count-in-Paren : goal.returns-in_ok-count-in-Paren
returns-in_ok-count-in-Paren t c =
    let count = c.in_ok-count-in-Paren.count in
    subst (λ (x : Pattern). IsTold (HasPatternCount c.args.t.now x) count)
    (sym (seen_paren c.args.of.now c.deref.result.now c.in-Paren.inner c.in-Paren.is c.deref.ensures))
    (count_group c.args.t.now (pattern_of c.deref.result.now) count c.in_ok-count-in-Paren.ensures)

pub returns-in_ok-count-in-Ellipsis : goal.returns-in_ok-count-in-Ellipsis
returns-in_ok-count-in-Ellipsis t c =
    let count = c.in_ok-count-in-Ellipsis.count in
    subst (λ (x : Pattern). IsTold (HasPatternCount c.args.t.now x) count)
    (sym (seen_ellipsis c.args.of.now c.deref-in-Ellipsis.result.now c.in-Ellipsis.inner c.in-Ellipsis.is c.deref-in-Ellipsis.ensures))
    (count_ellipsis c.args.t.now (pattern_of c.deref-in-Ellipsis.result.now) count c.in_ok-count-in-Ellipsis.ensures)

pub returns-in_ok-second-in-Joined : goal.returns-in_ok-second-in-Joined
returns-in_ok-second-in-Joined t c =
    let left = c.deref-in-Joined.result.now in
    let right = c.deref-in-Joined-2.result.now in
    subst (λ (x : Pattern). IsTold (HasPatternCount c.args.t.now x) c.joined_count.result)
    (sym (seen_joined c.args.of.now left right c.in-Joined.op c.in-Joined.left c.in-Joined.right c.in-Joined.is c.deref-in-Joined.ensures c.deref-in-Joined-2.ensures))
    (count_joined c.args.t.now c.in-Joined.op (pattern_of left) (pattern_of right) c.in_ok-first-in-Joined.first c.in_ok-second-in-Joined.second c.joined_count.result
    c.in_ok-first-in-Joined.ensures c.in_ok-second-in-Joined.ensures c.joined_count.ensures)
