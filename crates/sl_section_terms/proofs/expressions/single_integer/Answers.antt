use Rattle.std.proofs.Common.{◌≡◌, ◌≢◌, List, [], ◌∷◌, length, None, refl}
use Rattle.sl_ast.specs.Views.{arguments, expressions_of}
use Rattle.sl_ast.specs.declared.expressions.Expr.{Expr}
use Rattle.sl_section_terms.specs.Terms.{single_integer}
use Rattle.sl_section_terms.proofs.expressions.single_integer.Goals as goal

-- no integer is the only one of other than one argument
none_of : (es : List Expr) → length es ≢ 1 → None ≡ single_integer (arguments (expressions_of es))
none_of [] other = refl
none_of (e ∷ []) other = absurd (other refl)
none_of (e ∷ f ∷ es) other = refl

pub returns-else-es-eq1 : goal.returns-else-es-eq1
returns-else-es-eq1 c = none_of c.args.es.now c.if-es-eq1.false
