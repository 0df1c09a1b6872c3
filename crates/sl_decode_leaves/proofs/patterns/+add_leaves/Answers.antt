use Rattle.std.proofs.Common.{ap, sym, ◌∙◌}
use Rattle.sl_ast.specs.Trees.{Pattern}
use Rattle.sl_ast.specs.Views.{pattern_of}
use Rattle.sl_decode_meaning.specs.Places.{length_in, length_of, place_beside}
use Rattle.sl_decode_leaves.specs.Extents.{extent}
use Rattle.sl_decode_leaves.proofs.PatternLemmas.{joined_added, seen_constraint, seen_joined}
use Rattle.sl_decode_leaves.proofs.patterns.+add_leaves.Goals as goal

pub returns-in_ok-length-in-Constraint-clause-length : goal.returns-in_ok-length-in-Constraint-clause-length
returns-in_ok-length-in-Constraint-clause-length t c = λ lengths.
    c.in_ok-length-in-Constraint.ensures lengths
    ∙ ap (λ (x : Pattern). length_in c.args.t.now c.args.operands.now (length_of c.args.operands.now lengths) x)
    (sym (seen_constraint c.args.p.now c.in-Constraint.name c.in-Constraint.field-1 c.in-Constraint.field-2 c.in-Constraint.is))

pub returns-in_ok-length-in-Joined-clause-added : goal.returns-in_ok-length-in-Joined-clause-added
returns-in_ok-length-in-Joined-clause-added t c = λ lengths.
    let os = c.args.operands.now in
    let first = extent c.in_ok-first-in-Joined.first lengths in
    let left = c.deref-in-Joined.result.now in
    let right = c.deref-in-Joined-2.result.now in
    joined_added c.args.t.now os (length_of os lengths) c.in-Joined.op (pattern_of c.args.p.now) (pattern_of left) (pattern_of right)
    (extent c.args.at lengths) (extent c.in_ok-next-in-Joined.next lengths) first _ _ _
    (c.in_ok-first-in-Joined.ensures.added lengths) (c.in_ok-first-in-Joined.ensures.length lengths)
    (c.in_ok-next-in-Joined.ensures lengths ∙ ap (λ n. place_beside c.in-Joined.op n first) (c.in_ok-start-in-Joined.ensures lengths))
    (c.in_ok-second-in-Joined.ensures.added lengths)
    (seen_joined c.args.p.now left right c.in-Joined.op c.in-Joined.left c.in-Joined.right c.in-Joined.is c.deref-in-Joined.ensures c.deref-in-Joined-2.ensures)
