-- The names of the arguments of a call.
use Rattle.std.proofs.Common.{◌≡◌, List, [], ◌∷◌, ◌++◌, Vec, fold, refl, sym, ap, ◌∙◌}
use Rattle.std.specs.declared.alloc.Global.{Global}
use Rattle.std.specs.Borrow.{Bor}
use Rattle.std.proofs.Common.{ℕ}
use Rattle.sl_ast.specs.Trees.{Expression, call}
use Rattle.sl_ast.specs.Views.{arguments, expression_of, expressions_of, expression_step}
use Rattle.sl_ast.specs.declared.expressions.Expr as x
use Rattle.sl_ast.specs.declared.expressions.Expr.{Expr}
use Rattle.sl_ast.specs.declared.expressions.Expr.TheFolds.{fold-roll-Expr}
use Rattle.sl_ast.specs.declared.expressions.Expr.TheOpen.{Expr-F}
use Rattle.sl_ast.specs.declared.expressions.Expr.TheVariants.{rolls-Call}
use Rattle.sl_spec_rules.specs.Names.{Name}
use Rattle.sl_spec_actions.specs.ActionNames.{names_behind, names_behind_all}

abbrev pub with_argument : List Name → Expr → List Name
with_argument names e = names_behind names (expression_of e)

in_arguments : (names : List Name) (es : List Expr) → fold with_argument names es ≡ names_behind_all names (arguments (expressions_of es))
unfolding names_behind names_behind_all
in_arguments names [] = refl
in_arguments names (e ∷ es) = in_arguments (names_behind names (expression_of e)) es

-- the names of a call, by the list of its arguments as the code sees it
pub call_names : (names : List Name) (e : Expr) (w : Bor (List ℕ)) (given : Vec Expr Global) (parts : List Expr) → e ≡ x.Call w given → parts ≡ given.items
    → fold with_argument (names ++ w.now ∷ []) parts ≡ names_behind names (expression_of e)
unfolding names_behind names_behind_all
call_names names e w given parts is same =
    let shape : expression_of e ≡ call w.now (arguments (expressions_of given.items)) =
    ap expression_of (is ∙ sym (rolls-Call w given)) ∙ fold-roll-Expr Expression expression_step (Expr-F.Call w given) in
    in_arguments (names ++ w.now ∷ []) parts
    ∙ ap (λ (es : List Expr). names_behind names (call w.now (arguments (expressions_of es)))) same ∙ sym (ap (names_behind names) shape)
