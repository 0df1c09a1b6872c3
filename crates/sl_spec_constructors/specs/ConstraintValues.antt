-- meaning: the values of expressions in constraints, in 64-bit two's complement (SLEIGH manual,
-- "Constraints" and "Disassembly Actions Section").
use Rattle.std.specs.Prelude.{ℤ, pos, ◌&&◌, Bool, true}
use Rattle.std.specs.Prelude.{Option, Some, None, is_some, option_and_then}
use Rattle.sl_ast.specs.Trees.{Expression, integer, paren, prefix, binary}
use Rattle.sl_ast.specs.Trees.{Pattern, bare, constraint, group, ellipsis, joined}
use Rattle.sl_spec_operators.specs.Operators.{prefix_value, value_of, wrapped}

-- a function of two values, where both are there
abbrev pub both : (ℤ → ℤ → Option ℤ) → Option ℤ → Option ℤ → Option ℤ
both f None right = None
both f (Some a) right = option_and_then (f a) right

-- the value of an expression; none where a divisor is 0, and of a form that constraints lack
unfoldable pub constraint_value : Expression → Option ℤ
constraint_value (integer n) = Some (wrapped (pos n))
constraint_value (paren e) = constraint_value e
constraint_value (prefix o e) = option_and_then (prefix_value o) (constraint_value e)
constraint_value (binary o l r) = both (value_of o) (constraint_value l) (constraint_value r)
constraint_value _ = None

-- 20: no zero divisor in a constraint
unfoldable pub has_values : Pattern → Bool
has_values (bare w) = true
has_values (constraint w relation e) = is_some (constraint_value e)
has_values (group p) = has_values p
has_values (ellipsis p) = has_values p
has_values (joined o l r) = has_values l && has_values r
