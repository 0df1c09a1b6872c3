use Rattle.std.proofs.Common.{◌≡◌, ℕ, List, ◌++◌, sym, ap, ◌∙◌, subst}
use Rattle.std.specs.Prelude.{OnOk}
use Rattle.sl_ast.specs.Views.{expression_of, pattern_of}
use Rattle.sl_shape_patterns.proofs.ViewLemmas.{seen_name, seen_constraint, seen_paren, seen_ellipsis, seen_joined}
use Rattle.sl_shape.specs.Tables.{one_or_none, tables_named}
use Rattle.sl_shape.proofs.NamedLemmas.{adds_both, adds_none, names_bare, names_constraint, names_ellipsis, names_group, names_joined}
use Rattle.sl_shape.proofs.order.+add_named.Goals as goal

pub returns-in-Name : goal.returns-in-Name
returns-in-Name t c =
    let d = c.args.t.now in
    let is = ap (tables_named d) (seen_name c.args.of.now c.in-Name.name c.in-Name.is) ∙ names_bare d c.in-Name.name.now ∙ ap one_or_none (sym c.index_of.ensures) in
    subst (λ (ns : List ℕ). OnOk c.add_one.result (c.add_one.new.all.items ≡ c.args.all.now.items ++ ns)) (sym is) c.add_one.ensures

pub returns-in-Constraint : goal.returns-in-Constraint
returns-in-Constraint t c =
    let d = c.args.t.now in
    adds_none c.args.all.now.items (tables_named d (pattern_of c.args.of.now))
    (ap (tables_named d) (seen_constraint c.args.of.now c.in-Constraint.field-0 c.in-Constraint.field-1 c.in-Constraint.field-2 c.in-Constraint.is)
    ∙ names_constraint d c.in-Constraint.field-0.now c.in-Constraint.field-1 (expression_of c.in-Constraint.field-2))

pub returns-in-Paren : goal.returns-in-Paren
returns-in-Paren t c =
    let d = c.args.t.now in
    let inner = c.deref.result.now in
    let is = ap (tables_named d) (seen_paren c.args.of.now inner c.in-Paren.inner c.in-Paren.is c.deref.ensures) ∙ names_group d (pattern_of inner) in
    subst (λ (ns : List ℕ). OnOk c.add_named.result (c.add_named.new.all.items ≡ c.args.all.now.items ++ ns)) (sym is) c.add_named.ensures

pub returns-in-Ellipsis : goal.returns-in-Ellipsis
returns-in-Ellipsis t c =
    let d = c.args.t.now in
    let inner = c.deref-in-Ellipsis.result.now in
    let is = ap (tables_named d) (seen_ellipsis c.args.of.now inner c.in-Ellipsis.inner c.in-Ellipsis.is c.deref-in-Ellipsis.ensures) ∙ names_ellipsis d (pattern_of inner) in
    subst (λ (ns : List ℕ). OnOk c.add_named-in-Ellipsis.result (c.add_named-in-Ellipsis.new.all.items ≡ c.args.all.now.items ++ ns)) (sym is) c.add_named-in-Ellipsis.ensures

pub returns-in_ok-add_named-in-Joined : goal.returns-in_ok-add_named-in-Joined
returns-in_ok-add_named-in-Joined t c =
    let d = c.args.t.now in
    let left = c.deref-in-Joined.result.now in
    let right = c.deref-in-Joined-2.result.now in
    let is = ap (tables_named d) (seen_joined c.args.of.now left right c.in-Joined.field-0 c.in-Joined.left c.in-Joined.right c.in-Joined.is c.deref-in-Joined.ensures c.deref-in-Joined-2.ensures)
    ∙ names_joined d c.in-Joined.field-0 (pattern_of left) (pattern_of right) in
    subst (λ (ns : List ℕ). OnOk c.add_named-in-Joined-2.result (c.add_named-in-Joined-2.new.all.items ≡ c.args.all.now.items ++ ns)) (sym is)
    (adds_both c.add_named-in-Joined-2.result c.args.all.now.items c.add_named-in-Joined.new.all.items c.add_named-in-Joined-2.new.all.items
    (tables_named d (pattern_of left)) (tables_named d (pattern_of right)) c.in_ok-add_named-in-Joined.ensures c.add_named-in-Joined-2.ensures)
