use Rattle.std.proofs.Common.{◌≡◌, sym, ap, subst, ◌∙◌}
use Rattle.sl_ast.specs.Trees.{Pattern}
use Rattle.sl_ast.specs.Views.{pattern_of, expression_of}
use Rattle.sl_ast.specs.declared.patterns.Pattern as p
use Rattle.sl_shape_patterns.specs.Patterns.{right_place, told}
use Rattle.sl_shape_patterns.specs.Views.{reading_of}
use Rattle.sl_shape_patterns.specs.Windows.{IsWindow, PatternConstrains}
use Rattle.sl_shape_patterns.proofs.ViewLemmas.{seen_name, seen_constraint, seen_paren, seen_ellipsis, seen_joined}
use Rattle.sl_shape_patterns.proofs.WindowLemmas.{window_name, window_constraint, window_group, window_ellipsis, window_both}
use Rattle.sl_shape_patterns.proofs.reader.Reader.+pattern_window.Goals as goal

pub returns-in-Name : goal.returns-in-Name
returns-in-Name g t c = λ at e.
    let r = reading_of g.L.Lengths.bytes c.args.self.now in
    subst (λ (x : Pattern). IsWindow (PatternConstrains r x at) c.end_from.result) (sym (seen_name c.args.of.now c.in-Name.name c.in-Name.is))
    (window_name r c.in-Name.name.now at c.name_end.result c.end_from.result c.name_end.ensures (c.end_from.ensures at e))

pub returns-in-Constraint : goal.returns-in-Constraint
returns-in-Constraint g t c = λ at e.
    let r = reading_of g.L.Lengths.bytes c.args.self.now in
    subst (λ (x : Pattern). IsWindow (PatternConstrains r x at) c.end_from-in-Constraint.result)
    (sym (seen_constraint c.args.of.now c.in-Constraint.name c.in-Constraint.relation c.in-Constraint.value c.in-Constraint.is))
    (window_constraint r c.in-Constraint.name.now c.in-Constraint.relation (expression_of c.in-Constraint.value) at c.constraint_end-end.result
    c.end_from-in-Constraint.result c.constraint_end-end.ensures (c.end_from-in-Constraint.ensures at e))

pub returns-in_ok-window-in-Paren : goal.returns-in_ok-window-in-Paren
returns-in_ok-window-in-Paren g t c = λ at e.
    let r = reading_of g.L.Lengths.bytes c.args.self.now in
    let window = c.in_ok-window-in-Paren.window in
    subst (λ (x : Pattern). IsWindow (PatternConstrains r x at) window) (sym (seen_paren c.args.of.now c.deref.result.now c.in-Paren.inner c.in-Paren.is c.deref.ensures))
    (window_group r (pattern_of c.deref.result.now) at window (c.in_ok-window-in-Paren.ensures at e))

pub returns-in_ok-window-in-Ellipsis : goal.returns-in_ok-window-in-Ellipsis
returns-in_ok-window-in-Ellipsis g t c = λ at e.
    let r = reading_of g.L.Lengths.bytes c.args.self.now in
    let window = c.in_ok-window-in-Ellipsis.window in
    subst (λ (x : Pattern). IsWindow (PatternConstrains r x at) window)
    (sym (seen_ellipsis c.args.of.now c.deref-in-Ellipsis.result.now c.in-Ellipsis.inner c.in-Ellipsis.is c.deref-in-Ellipsis.ensures))
    (window_ellipsis r (pattern_of c.deref-in-Ellipsis.result.now) at window (c.in_ok-window-in-Ellipsis.ensures at e))

pub returns-in_ok-second-in-Joined : goal.returns-in_ok-second-in-Joined
returns-in_ok-second-in-Joined g t c = λ at e.
    let r = reading_of g.L.Lengths.bytes c.args.self.now in
    let left = c.deref-in-Joined.result.now in
    let right = c.deref-in-Joined-3.result.now in
    let same : c.deref-in-Joined-2.result.now ≡ left = c.deref-in-Joined-2.ensures ∙ sym c.deref-in-Joined.ensures in
    let from = c.in_ok-from-in-Joined.ensures at e ∙ ap (λ (y : p.Pattern). told (right_place c.in-Joined.op at (r.bytes (pattern_of y)))) same in
    subst (λ (x : Pattern). IsWindow (PatternConstrains r x at) c.max.result)
    (sym (seen_joined c.args.of.now left right c.in-Joined.op c.in-Joined.left c.in-Joined.right c.in-Joined.is c.deref-in-Joined.ensures c.deref-in-Joined-3.ensures))
    (window_both r c.in-Joined.op (pattern_of left) (pattern_of right) at c.in_ok-first-in-Joined.first c.in_ok-second-in-Joined.second c.max.result
    (c.in_ok-first-in-Joined.ensures at e) (c.in_ok-second-in-Joined.ensures (right_place c.in-Joined.op at (r.bytes (pattern_of left))) from) c.max.ensures)
