-- meaning: bit patterns as bytes, and the conditions on their leaves.
use Rattle.std.specs.Prelude.{ℕ, List, ◌∷◌, ◌++◌}
use Rattle.sl_ast.specs.Trees.{Pattern, bare, constraint, group, ellipsis, joined}
use Rattle.sl_ast.specs.declared.patterns.PatternOp.{PatternOp}
use Rattle.sl_ast.specs.declared.patterns.PatternOp.TheVariants as j
use Rattle.sl_store_format.specs.Expressions.{write_expression, Leaves}
use Rattle.sl_store_bytes.specs.Lexemes.{write_bytes}
use Rattle.sl_store_bytes.specs.Orders.{relation_code}
use Rattle.sl_store_bytes.specs.Words.{IsName}

abbrev pub joint_code : PatternOp → ℕ
joint_code j.And = 4
joint_code j.Then = 5
joint_code j.Or = 6

abbrev pub write_pattern : Pattern → List ℕ
write_pattern (bare w) = 0 ∷ write_bytes w
write_pattern (constraint w rel e) = 1 ∷ (write_bytes w ++ (relation_code rel ∷ write_expression e))
write_pattern (group p) = 2 ∷ write_pattern p
write_pattern (ellipsis p) = 3 ∷ write_pattern p
write_pattern (joined op p q) = joint_code op ∷ (write_pattern p ++ write_pattern q)

abbrev pub PatternLeaves : Pattern → Type 0
PatternLeaves (bare w) = IsName w
PatternLeaves (constraint w rel e) = IsName w × Leaves e
PatternLeaves (group p) = PatternLeaves p
PatternLeaves (ellipsis p) = PatternLeaves p
PatternLeaves (joined op p q) = PatternLeaves p × PatternLeaves q
