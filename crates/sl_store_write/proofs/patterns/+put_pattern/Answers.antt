use Rattle.std.proofs.Common.{◌∷◌, []}
use Rattle.sl_ast.specs.Views.{expression_of, pattern_of}
use Rattle.sl_store_format.specs.Expressions.{write_expression}
use Rattle.sl_store_format.specs.PatternBytes.{write_pattern}
use Rattle.sl_store_bytes.specs.Lexemes.{write_bytes}
use Rattle.sl_store_bytes.specs.Orders.{relation_code}
use Rattle.sl_store_write.proofs.Levels.{level_bare, level_constraint, level_group, level_ellipsis, level_joined}
use Rattle.sl_store_write.proofs.Puts.{put2, put3, put4}
use Rattle.sl_store_write.proofs.patterns.+put_pattern.Goals as goal

pub returns-in_ok-put_bytes-in-Name : goal.returns-in_ok-put_bytes-in-Name
returns-in_ok-put_bytes-in-Name t c =
    rw (c.in-Name.is, level_bare) (put2 _ _ _ (0 ∷ []) (write_bytes c.in-Name.name.now) c.in_ok-put_code-in-Name.ensures c.in_ok-put_bytes-in-Name.ensures)

pub returns-in_ok-put-in-Constraint : goal.returns-in_ok-put-in-Constraint
returns-in_ok-put-in-Constraint t c =
    rw (c.in-Constraint.is, level_constraint)
    (put4 _ _ _ _ _ (1 ∷ []) (write_bytes c.in-Constraint.field.now) (relation_code c.in-Constraint.relation ∷ []) (write_expression (expression_of c.in-Constraint.value))
    c.in_ok-put_code-in-Constraint.ensures c.in_ok-put_bytes-in-Constraint.ensures c.in_ok-put_code-in-Constraint-2.ensures c.in_ok-put-in-Constraint.ensures)

pub returns-in_ok-put_pattern-in-Paren : goal.returns-in_ok-put_pattern-in-Paren
returns-in_ok-put_pattern-in-Paren t c =
    rw (c.in-Paren.is, level_group, ← c.deref.ensures)
    (put2 _ _ _ (2 ∷ []) (write_pattern (pattern_of c.deref.result.now)) c.in_ok-put_code-in-Paren.ensures c.in_ok-put_pattern-in-Paren.ensures)

pub returns-in_ok-put_pattern-in-Ellipsis : goal.returns-in_ok-put_pattern-in-Ellipsis
returns-in_ok-put_pattern-in-Ellipsis t c =
    rw (c.in-Ellipsis.is, level_ellipsis, ← c.deref-in-Ellipsis.ensures)
    (put2 _ _ _ (3 ∷ []) (write_pattern (pattern_of c.deref-in-Ellipsis.result.now)) c.in_ok-put_code-in-Ellipsis.ensures c.in_ok-put_pattern-in-Ellipsis.ensures)

pub returns-in_ok-put_pattern-in-Joined-2 : goal.returns-in_ok-put_pattern-in-Joined-2
returns-in_ok-put_pattern-in-Joined-2 t c =
    rw (c.in-Joined.is, level_joined, ← c.deref-in-Joined.ensures, ← c.deref-in-Joined-2.ensures, ← c.joint.ensures)
    (put3 _ _ _ _ _ (write_pattern (pattern_of c.deref-in-Joined.result.now)) (write_pattern (pattern_of c.deref-in-Joined-2.result.now))
    c.in_ok-put_code-in-Joined.ensures c.in_ok-put_pattern-in-Joined.ensures c.in_ok-put_pattern-in-Joined-2.ensures)
