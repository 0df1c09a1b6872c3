-- How many arguments a call has.
use Rattle.std.proofs.Common.{◌≡◌, List, [], ◌∷◌, length, refl, arith}
use Rattle.sl_ast.specs.Views.{arguments, expressions_of}
use Rattle.sl_ast.specs.declared.expressions.Expr.{Expr}
use Rattle.sl_section_rules.specs.SectionRules.{count}

pub count_of : (es : List Expr) → count (arguments (expressions_of es)) ≡ length es
count_of [] = refl
count_of (e ∷ es) = omega (arith, count_of es)
