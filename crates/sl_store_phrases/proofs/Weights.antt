-- The room that arguments take, one after another.
use Rattle.std.proofs.Common.{◌≡◌, ℕ, ◌+◌, ◌-◌, List, [], ◌∷◌, ◌++◌, ap, ◌∙◌, arith}
use Rattle.std.proofs.lemmas.List.{map_push}
use Rattle.sl_ast.specs.Trees.{Expression}
use Rattle.sl_ast.specs.Validity.{weight, weights}
use Rattle.sl_ast.specs.Views.{arguments, expression_of, expressions_of}
use Rattle.sl_ast.specs.declared.expressions.Expr.{Expr}

more_weight : (es : List Expression) (e : Expression) → weights (arguments (es ++ e ∷ [])) ≡ weights (arguments es) + weight e
more_weight [] e = omega arith
more_weight (d ∷ es) e = let deep = more_weight es e in omega arith

-- the room that is left after one more argument
pub room_left : (most room left : ℕ) (found more : List Expr) (e : Expr) → more ≡ found ++ e ∷ [] → room ≡ most - weights (arguments (expressions_of found))
    → left ≡ room - weight (expression_of e) → left ≡ most - weights (arguments (expressions_of more))
room_left most room left found more e same before spent =
    let seen : expressions_of more ≡ expressions_of found ++ expression_of e ∷ [] = ap expressions_of same ∙ map_push expression_of found e in
    let all : weights (arguments (expressions_of more)) ≡ weights (arguments (expressions_of found)) + weight (expression_of e) =
    ap (λ es. weights (arguments es)) seen ∙ more_weight (expressions_of found) (expression_of e) in
    omega arith
