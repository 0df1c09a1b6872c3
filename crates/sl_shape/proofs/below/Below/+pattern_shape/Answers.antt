use Rattle.std.proofs.Common.{◌≡◌, refl, sym, ap, ◌∙◌, subst}
use Rattle.std.proofs.lemmas.Result.{err_from_is_err_and}
use Rattle.sl_ast.specs.Trees.{Pattern}
use Rattle.sl_ast.specs.Views.{pattern_of, expression_of}
use Rattle.sl_shape_patterns.proofs.ViewLemmas.{seen_name, seen_constraint, seen_paren, seen_ellipsis, seen_joined}
use Rattle.sl_shape.specs.Below.{IsShaped}
use Rattle.sl_shape.specs.Faults.{ShapeTells}
use Rattle.sl_shape.specs.Stops.{Stops}
use Rattle.sl_shape.proofs.BelowLemmas.{shaped_constraint, shaped_ellipsis, shaped_name, told_ellipsis, told_left, told_right}
use Rattle.sl_shape.proofs.JoinLemmas.{paren_goes, paren_stops, joined_goes, joined_stops}
use Rattle.sl_shape.proofs.below.Below.+pattern_shape.Goals as goal

pub returns-in_ok-shape-in-Name-clause-shape : goal.returns-in_ok-shape-in-Name-clause-shape
returns-in_ok-shape-in-Name-clause-shape t c = λ shapes shows.
    let s = c.in_ok-shape-in-Name.shape in
    subst (λ (x : Pattern). IsShaped c.args.self.now shapes c.args.lists.now c.name_shape.new.lists x s) (sym (seen_name c.args.of.now c.in-Name.name c.in-Name.is))
    (shaped_name c.args.self.now shapes c.args.lists.now c.name_shape.new.lists s c.in-Name.name.now (c.in_ok-shape-in-Name.ensures.shape shapes shows))

pub returns-in_ok-shape-in-Constraint-clause-shape : goal.returns-in_ok-shape-in-Constraint-clause-shape
returns-in_ok-shape-in-Constraint-clause-shape t c = λ shapes shows.
    let s = c.in_ok-shape-in-Constraint.shape in
    subst (λ (x : Pattern). IsShaped c.args.self.now shapes c.args.lists.now c.constraint_shape.new.lists x s)
    (sym (seen_constraint c.args.of.now c.in-Constraint.name c.in-Constraint.field-1 c.in-Constraint.field-2 c.in-Constraint.is))
    (shaped_constraint c.args.self.now shapes c.args.lists.now c.constraint_shape.new.lists s c.in-Constraint.name.now c.in-Constraint.field-1 (expression_of c.in-Constraint.field-2)
    (c.in_ok-shape-in-Constraint.ensures.shape shapes shows))

pub returns-in-Paren-clause-shape : goal.returns-in-Paren-clause-shape
returns-in-Paren-clause-shape t c =
    let inner = c.deref.result.now in
    paren_goes c.args.self.now c.args.lists.now c.pattern_shape.new.lists (pattern_of inner) (pattern_of c.args.of.now)
    (seen_paren c.args.of.now inner c.in-Paren.inner c.in-Paren.is c.deref.ensures) c.pattern_shape.result c.pattern_shape.ensures.shape

pub returns-in-Paren-clause-fault : goal.returns-in-Paren-clause-fault
returns-in-Paren-clause-fault t c =
    let inner = c.deref.result.now in
    paren_stops c.args.self.now c.args.lists.now (pattern_of inner) (pattern_of c.args.of.now)
    (seen_paren c.args.of.now inner c.in-Paren.inner c.in-Paren.is c.deref.ensures) c.pattern_shape.result c.pattern_shape.ensures.fault

pub returns-in_err-shape-in-Ellipsis-clause-fault : goal.returns-in_err-shape-in-Ellipsis-clause-fault
returns-in_err-shape-in-Ellipsis-clause-fault t c =
    let p = err_from_is_err_and c.from_residual-in_err-shape-in-Ellipsis.result c.from_residual-in_err-shape-in-Ellipsis.ensures.1 in
    let inner = c.deref-in-Ellipsis.result.now in
    let self = c.args.self.now in
    let stop = c.in_err-shape-in-Ellipsis.field-0.0 in
    rw (p.1, p.2) (λ shapes shows.
    subst (λ (x : Pattern). Stops (ShapeTells self.tables.now shapes self.hulls.now x) stop)
    (sym (seen_ellipsis c.args.of.now inner c.in-Ellipsis.inner c.in-Ellipsis.is c.deref-in-Ellipsis.ensures))
    (told_ellipsis self shapes (pattern_of inner) stop (c.in_err-shape-in-Ellipsis.ensures.fault shapes shows)))

pub returns-in_ok-shape-in-Ellipsis-clause-shape : goal.returns-in_ok-shape-in-Ellipsis-clause-shape
returns-in_ok-shape-in-Ellipsis-clause-shape t c = λ shapes shows.
    let self = c.args.self.now in
    let inner = c.deref-in-Ellipsis.result.now in
    let new = c.pattern_shape-in-Ellipsis.new.lists in
    let s = c.in_ok-shape-in-Ellipsis.shape in
    let r = c.extended.result in
    let i = c.in_ok-shape-in-Ellipsis.ensures.shape shapes shows in
    subst (λ (x : Pattern). IsShaped self shapes c.args.lists.now new x r)
    (sym (seen_ellipsis c.args.of.now inner c.in-Ellipsis.inner c.in-Ellipsis.is c.deref-in-Ellipsis.ensures))
    (shaped_ellipsis self shapes c.args.lists.now new s (pattern_of inner) r (c.extended.ensures.shape new.all) (c.extended.ensures.there new.all i.gets.there) i)

pub returns-in_err-first-in-Joined-clause-fault : goal.returns-in_err-first-in-Joined-clause-fault
returns-in_err-first-in-Joined-clause-fault t c =
    let p = err_from_is_err_and c.from_residual-in_err-first-in-Joined.result c.from_residual-in_err-first-in-Joined.ensures.1 in
    let self = c.args.self.now in
    let left = c.deref-in-Joined.result.now in
    let stop = c.in_err-first-in-Joined.field-0.0 in
    rw (p.1, p.2) (λ shapes shows.
    subst (λ (x : Pattern). Stops (ShapeTells self.tables.now shapes self.hulls.now x) stop)
    (sym (seen_joined c.args.of.now left c.in-Joined.right.value c.in-Joined.op c.in-Joined.left c.in-Joined.right c.in-Joined.is c.deref-in-Joined.ensures refl))
    (told_left self shapes c.in-Joined.op (pattern_of left) (pattern_of c.in-Joined.right.value) stop (c.in_err-first-in-Joined.ensures.fault shapes shows)))

pub returns-in_err-second-in-Joined-clause-fault : goal.returns-in_err-second-in-Joined-clause-fault
returns-in_err-second-in-Joined-clause-fault t c =
    let p = err_from_is_err_and c.from_residual-in_err-second-in-Joined.result c.from_residual-in_err-second-in-Joined.ensures.1 in
    let self = c.args.self.now in
    let left = c.deref-in-Joined.result.now in
    let right = c.deref-in-Joined-2.result.now in
    let stop = c.in_err-second-in-Joined.field-0.0 in
    rw (p.1, p.2) (λ shapes shows.
    let i = c.in_ok-first-in-Joined.ensures.shape shapes shows in
    subst (λ (x : Pattern). Stops (ShapeTells self.tables.now shapes self.hulls.now x) stop)
    (sym (seen_joined c.args.of.now left right c.in-Joined.op c.in-Joined.left c.in-Joined.right c.in-Joined.is c.deref-in-Joined.ensures c.deref-in-Joined-2.ensures))
    (told_right self shapes c.in-Joined.op (pattern_of left) (pattern_of right) stop i.sound (c.in_err-second-in-Joined.ensures.fault shapes i.gets.shows)))

pub returns-in_ok-second-in-Joined-clause-shape : goal.returns-in_ok-second-in-Joined-clause-shape
returns-in_ok-second-in-Joined-clause-shape t c =
    let self = c.args.self.now in
    let left = c.deref-in-Joined.result.now in
    let right = c.deref-in-Joined-2.result.now in
    let last = c.deref-in-Joined-3.result.now in
    let same : last ≡ right = c.deref-in-Joined-3.ensures ∙ sym c.deref-in-Joined-2.ensures in
    joined_goes self c.args.lists.now c.pattern_shape-in-Joined.new.lists c.pattern_shape-in-Joined-2.new.lists c.joined_shape.new.lists c.in-Joined.op
    (pattern_of left) (pattern_of right) (pattern_of last) (pattern_of c.args.of.now) (ap pattern_of same)
    (seen_joined c.args.of.now left right c.in-Joined.op c.in-Joined.left c.in-Joined.right c.in-Joined.is c.deref-in-Joined.ensures c.deref-in-Joined-2.ensures)
    c.in_ok-first-in-Joined.first c.in_ok-second-in-Joined.second c.in_ok-first-in-Joined.ensures.shape c.in_ok-second-in-Joined.ensures.shape
    c.joined_shape.result c.joined_shape.ensures.shape

pub returns-in_ok-second-in-Joined-clause-fault : goal.returns-in_ok-second-in-Joined-clause-fault
returns-in_ok-second-in-Joined-clause-fault t c =
    let self = c.args.self.now in
    let left = c.deref-in-Joined.result.now in
    let right = c.deref-in-Joined-2.result.now in
    let last = c.deref-in-Joined-3.result.now in
    let same : last ≡ right = c.deref-in-Joined-3.ensures ∙ sym c.deref-in-Joined-2.ensures in
    joined_stops self c.args.lists.now c.pattern_shape-in-Joined.new.lists c.pattern_shape-in-Joined-2.new.lists c.joined_shape.new.lists c.in-Joined.op
    (pattern_of left) (pattern_of right) (pattern_of last) (pattern_of c.args.of.now) (ap pattern_of same)
    (seen_joined c.args.of.now left right c.in-Joined.op c.in-Joined.left c.in-Joined.right c.in-Joined.is c.deref-in-Joined.ensures c.deref-in-Joined-2.ensures)
    c.in_ok-first-in-Joined.first c.in_ok-second-in-Joined.second c.in_ok-first-in-Joined.ensures.shape c.in_ok-second-in-Joined.ensures.shape
    c.joined_shape.result c.joined_shape.ensures.fault
