-- meaning: the alternatives of statements and expressions, in the order of their bytes.
use Rattle.std.specs.Prelude.{List, [], ◌∷◌}
use Rattle.sl_store_format.specs.declared.forms.StatementForm.{StatementForm}
use Rattle.sl_store_format.specs.declared.forms.StatementForm.TheVariants as statement
use Rattle.sl_store_format.specs.declared.forms.LeftForm.{LeftForm}
use Rattle.sl_store_format.specs.declared.forms.LeftForm.TheVariants as left
use Rattle.sl_store_format.specs.declared.forms.DirectForm.{DirectForm}
use Rattle.sl_store_format.specs.declared.forms.DirectForm.TheVariants as direct
use Rattle.sl_store_format.specs.declared.forms.TargetForm.{TargetForm}
use Rattle.sl_store_format.specs.declared.forms.TargetForm.TheVariants as target
use Rattle.sl_store_format.specs.declared.forms.ExpressionForm.{ExpressionForm}
use Rattle.sl_store_format.specs.declared.forms.ExpressionForm.TheVariants as expression

abbrev pub statement_forms : List StatementForm
statement_forms = statement.Local ∷ statement.Declare ∷ statement.Assign ∷ statement.Goto ∷ statement.Branch ∷ statement.Call ∷ statement.Return ∷ statement.Build ∷ statement.Export ∷ statement.Invoke ∷ statement.Label ∷ []

abbrev pub left_forms : List LeftForm
left_forms = left.Name ∷ left.Bits ∷ left.Star ∷ []

abbrev pub direct_forms : List DirectForm
direct_forms = direct.Label ∷ direct.Name ∷ direct.Integer ∷ []

abbrev pub target_forms : List TargetForm
target_forms = target.Name ∷ target.Integer ∷ target.Computed ∷ []

abbrev pub expression_forms : List ExpressionForm
expression_forms = expression.Integer ∷ expression.Name ∷ expression.Paren ∷ expression.Call ∷ expression.Sized ∷ expression.Dropped ∷ expression.Bits ∷ expression.Prefix ∷ expression.Star ∷ expression.Binary ∷ []
