-- law: the alternatives of each rule that has three or more, in the order of their bytes.
use Rattle.std.specs.Prelude.{ℕ, List, [], ◌∷◌}
use Rattle.sl_store_format.specs.declared.forms.DefinitionForm.{DefinitionForm}
use Rattle.sl_store_format.specs.declared.forms.DefinitionForm.TheVariants as definition
use Rattle.sl_store_format.specs.declared.forms.AttributeForm.{AttributeForm}
use Rattle.sl_store_format.specs.declared.forms.AttributeForm.TheVariants as attribute
use Rattle.sl_store_format.specs.declared.forms.MemberForm.{MemberForm}
use Rattle.sl_store_format.specs.declared.forms.MemberForm.TheVariants as member
use Rattle.sl_store_format.specs.declared.forms.ShownForm.{ShownForm}
use Rattle.sl_store_format.specs.declared.forms.ShownForm.TheVariants as shown
use Rattle.sl_store_format.specs.declared.forms.ItemForm.{ItemForm}
use Rattle.sl_store_format.specs.declared.forms.ItemForm.TheVariants as item
use Rattle.sl_store_format.specs.declared.forms.PatternForm.{PatternForm}
use Rattle.sl_store_format.specs.declared.forms.PatternForm.TheVariants as pattern
use Rattle.sl_store_format.specs.declared.forms.StatementForm.{StatementForm}
use Rattle.sl_store_format.specs.declared.forms.StatementForm.TheVariants as statement
use Rattle.sl_store_format.specs.declared.forms.LeftForm.{LeftForm}
use Rattle.sl_store_format.specs.declared.forms.LeftForm.TheVariants as left
use Rattle.sl_store_format.specs.declared.forms.DirectForm.{DirectForm}
use Rattle.sl_store_format.specs.declared.forms.DirectForm.TheVariants as direct
use Rattle.sl_store_format.specs.declared.forms.TargetForm.{TargetForm}
use Rattle.sl_store_format.specs.declared.forms.TargetForm.TheVariants as target
use Rattle.sl_store_format.specs.declared.forms.ExpressionForm.{ExpressionForm}
use Rattle.sl_store_format.specs.declared.forms.ExpressionForm.TheVariants as expression

abbrev pub definition_forms : List DefinitionForm
definition_forms = definition.Endian ∷ definition.Alignment ∷ definition.Space ∷ definition.BitRanges ∷ definition.PcodeOps ∷ definition.Token ∷ definition.Context ∷ definition.Registers ∷ []

abbrev pub definition_code : DefinitionForm → ℕ
definition_code definition.Endian = 0
definition_code definition.Alignment = 1
definition_code definition.Space = 2
definition_code definition.BitRanges = 3
definition_code definition.PcodeOps = 4
definition_code definition.Token = 5
definition_code definition.Context = 6
definition_code definition.Registers = 7

abbrev pub attribute_forms : List AttributeForm
attribute_forms = attribute.Type ∷ attribute.Size ∷ attribute.WordSize ∷ attribute.Default ∷ []

abbrev pub attribute_code : AttributeForm → ℕ
attribute_code attribute.Type = 0
attribute_code attribute.Size = 1
attribute_code attribute.WordSize = 2
attribute_code attribute.Default = 3

abbrev pub member_forms : List MemberForm
member_forms = member.Word ∷ member.Text ∷ member.Integer ∷ []

abbrev pub member_code : MemberForm → ℕ
member_code member.Word = 0
member_code member.Text = 1
member_code member.Integer = 2

abbrev pub shown_forms : List ShownForm
shown_forms = shown.Word ∷ shown.Text ∷ shown.Blank ∷ shown.Caret ∷ shown.Char ∷ []

abbrev pub shown_code : ShownForm → ℕ
shown_code shown.Word = 0
shown_code shown.Text = 1
shown_code shown.Blank = 2
shown_code shown.Caret = 3
shown_code shown.Char = 4

abbrev pub item_forms : List ItemForm
item_forms = item.Define ∷ item.AttachList ∷ item.AttachOne ∷ item.Macro ∷ item.Constructor ∷ item.With ∷ []

abbrev pub item_code : ItemForm → ℕ
item_code item.Define = 0
item_code item.AttachList = 1
item_code item.AttachOne = 2
item_code item.Macro = 3
item_code item.Constructor = 4
item_code item.With = 5

abbrev pub pattern_forms : List PatternForm
pattern_forms = pattern.Name ∷ pattern.Constraint ∷ pattern.Paren ∷ pattern.Ellipsis ∷ pattern.And ∷ pattern.Then ∷ pattern.Or ∷ []

abbrev pub pattern_code : PatternForm → ℕ
pattern_code pattern.Name = 0
pattern_code pattern.Constraint = 1
pattern_code pattern.Paren = 2
pattern_code pattern.Ellipsis = 3
pattern_code pattern.And = 4
pattern_code pattern.Then = 5
pattern_code pattern.Or = 6

abbrev pub statement_code : StatementForm → ℕ
statement_code statement.Local = 0
statement_code statement.Declare = 1
statement_code statement.Assign = 2
statement_code statement.Goto = 3
statement_code statement.Branch = 4
statement_code statement.Call = 5
statement_code statement.Return = 6
statement_code statement.Build = 7
statement_code statement.Export = 8
statement_code statement.Invoke = 9
statement_code statement.Label = 10

abbrev pub left_code : LeftForm → ℕ
left_code left.Name = 0
left_code left.Bits = 1
left_code left.Star = 2

abbrev pub direct_code : DirectForm → ℕ
direct_code direct.Label = 0
direct_code direct.Name = 1
direct_code direct.Integer = 2

abbrev pub target_code : TargetForm → ℕ
target_code target.Name = 0
target_code target.Integer = 1
target_code target.Computed = 2

abbrev pub expression_code : ExpressionForm → ℕ
expression_code expression.Integer = 0
expression_code expression.Name = 1
expression_code expression.Paren = 2
expression_code expression.Call = 3
expression_code expression.Sized = 4
expression_code expression.Dropped = 5
expression_code expression.Bits = 6
expression_code expression.Prefix = 7
expression_code expression.Star = 8
expression_code expression.Binary = 9
