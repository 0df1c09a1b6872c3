use Rattle.std.proofs.Common.{◌∙◌}
use Rattle.sl_ast.specs.Views.{pattern_of}
use Rattle.sl_spec_tables.specs.BlockLengths.{IsJoined, IsLength, length_bytes}
use Rattle.sl_spec_tables.specs.Lengths.{pattern_bytes}
use Rattle.sl_spec_tables.proofs.BlockLemmas.{ok_weaker}
use Rattle.sl_spec_tables.proofs.LengthLemmas.{of_constraint, of_ellipsis, of_joined, of_name, of_paren}
use Rattle.sl_spec_tables.proofs.StepLemmas.{joined_alike}
use Rattle.sl_spec_tables.proofs.block_lengths.+length_of.Goals as goal

pub returns-in-Name : goal.returns-in-Name
returns-in-Name t c = λ f os. of_name c.args.t.now f os c.args.pattern.now c.in-Name.name c.in-Name.is

pub returns-in-Constraint : goal.returns-in-Constraint
returns-in-Constraint t c = λ f os.
    of_constraint c.args.t.now f os c.args.pattern.now c.in-Constraint.name c.in-Constraint.field-1 c.in-Constraint.field-2 c.constraint_bytes.result c.in-Constraint.is c.constraint_bytes.ensures

pub returns-in-Paren : goal.returns-in-Paren
returns-in-Paren t c =
    let here = c.args.t.now in
    ok_weaker (IsLength here (pattern_of c.deref.result.now)) (IsLength here (pattern_of c.args.pattern.now))
    (λ l h f os. h f os ∙ of_paren here f os c.args.pattern.now c.deref.result.now c.in-Paren.inner c.in-Paren.is c.deref.ensures) c.length_of.result c.length_of.ensures

pub returns-in-Ellipsis : goal.returns-in-Ellipsis
returns-in-Ellipsis t c =
    let here = c.args.t.now in
    ok_weaker (IsLength here (pattern_of c.deref-in-Ellipsis.result.now)) (IsLength here (pattern_of c.args.pattern.now))
    (λ l h f os. h f os ∙ of_ellipsis here f os c.args.pattern.now c.deref-in-Ellipsis.result.now c.in-Ellipsis.inner c.in-Ellipsis.is c.deref-in-Ellipsis.ensures) c.length_of-in-Ellipsis.result c.length_of-in-Ellipsis.ensures

pub returns-in_ok-right-in-Joined : goal.returns-in_ok-right-in-Joined
returns-in_ok-right-in-Joined t c =
    let here = c.args.t.now in
    let op = c.in-Joined.op in
    let left = c.in_ok-left-in-Joined.left in
    let right = c.in_ok-right-in-Joined.right in
    ok_weaker (IsJoined op left right) (IsLength here (pattern_of c.args.pattern.now))
    (λ l h f os. h here f os
    ∙ joined_alike 1025 here f f op (length_bytes here f os left) (pattern_bytes here f os (pattern_of c.deref-in-Joined.result.now)) (length_bytes here f os right)
    (pattern_bytes here f os (pattern_of c.deref-in-Joined-2.result.now)) (c.in_ok-left-in-Joined.ensures f os) (c.in_ok-right-in-Joined.ensures f os)
    ∙ of_joined here f os c.args.pattern.now c.deref-in-Joined.result.now c.deref-in-Joined-2.result.now op c.in-Joined.left c.in-Joined.right c.in-Joined.is c.deref-in-Joined.ensures c.deref-in-Joined-2.ensures) c.joined.result c.joined.ensures
