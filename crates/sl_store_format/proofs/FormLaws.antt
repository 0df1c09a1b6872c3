-- The alternatives count from 0.
use Rattle.std.proofs.Common.{◌≡◌, Some, slice_get, refl}
use Rattle.sl_store_format.specs.declared.forms.DefinitionForm.{DefinitionForm}
use Rattle.sl_store_format.specs.declared.forms.DefinitionForm.TheVariants as definition
use Rattle.sl_store_format.specs.declared.forms.AttributeForm.{AttributeForm}
use Rattle.sl_store_format.specs.declared.forms.AttributeForm.TheVariants as attribute
use Rattle.sl_store_format.specs.declared.forms.MemberForm.{MemberForm}
use Rattle.sl_store_format.specs.declared.forms.MemberForm.TheVariants as member
use Rattle.sl_store_format.specs.declared.forms.ShownForm.{ShownForm}
use Rattle.sl_store_format.specs.declared.forms.ShownForm.TheVariants as shown
use Rattle.sl_store_format.specs.declared.forms.ItemForm.{ItemForm}
use Rattle.sl_store_format.specs.declared.forms.ItemForm.TheVariants as item
use Rattle.sl_store_format.specs.declared.forms.PatternForm.{PatternForm}
use Rattle.sl_store_format.specs.declared.forms.PatternForm.TheVariants as pattern
use Rattle.sl_store_format.specs.declared.forms.StatementForm.{StatementForm}
use Rattle.sl_store_format.specs.declared.forms.StatementForm.TheVariants as statement
use Rattle.sl_store_format.specs.declared.forms.LeftForm.{LeftForm}
use Rattle.sl_store_format.specs.declared.forms.LeftForm.TheVariants as left
use Rattle.sl_store_format.specs.declared.forms.DirectForm.{DirectForm}
use Rattle.sl_store_format.specs.declared.forms.DirectForm.TheVariants as direct
use Rattle.sl_store_format.specs.declared.forms.TargetForm.{TargetForm}
use Rattle.sl_store_format.specs.declared.forms.TargetForm.TheVariants as target
use Rattle.sl_store_format.specs.declared.forms.ExpressionForm.{ExpressionForm}
use Rattle.sl_store_format.specs.declared.forms.ExpressionForm.TheVariants as expression
use Rattle.sl_store_format.specs.Forms.{definition_forms, definition_code, attribute_forms, attribute_code, member_forms, member_code, shown_forms, shown_code, item_forms, item_code, pattern_forms, pattern_code, statement_code, left_code, direct_code, target_code, expression_code}
use Rattle.sl_store_format.specs.StatementForms.{statement_forms, left_forms, direct_forms, target_forms, expression_forms}
use Rattle.sl_store_bytes.proofs.RuleLaws.{Counts}

definition_there : (k : DefinitionForm) → slice_get definition_forms (definition_code k) ≡ Some k
definition_there definition.Endian = refl
definition_there k = refl

pub definition_counts : Counts definition_forms definition_code
definition_counts = record { there = definition_there; back = refl }

attribute_there : (k : AttributeForm) → slice_get attribute_forms (attribute_code k) ≡ Some k
attribute_there attribute.Type = refl
attribute_there k = refl

pub attribute_counts : Counts attribute_forms attribute_code
attribute_counts = record { there = attribute_there; back = refl }

member_there : (k : MemberForm) → slice_get member_forms (member_code k) ≡ Some k
member_there member.Word = refl
member_there k = refl

pub member_counts : Counts member_forms member_code
member_counts = record { there = member_there; back = refl }

shown_there : (k : ShownForm) → slice_get shown_forms (shown_code k) ≡ Some k
shown_there shown.Word = refl
shown_there k = refl

pub shown_counts : Counts shown_forms shown_code
shown_counts = record { there = shown_there; back = refl }

item_there : (k : ItemForm) → slice_get item_forms (item_code k) ≡ Some k
item_there item.Define = refl
item_there k = refl

pub item_counts : Counts item_forms item_code
item_counts = record { there = item_there; back = refl }

pattern_there : (k : PatternForm) → slice_get pattern_forms (pattern_code k) ≡ Some k
pattern_there pattern.Name = refl
pattern_there k = refl

pub pattern_counts : Counts pattern_forms pattern_code
pattern_counts = record { there = pattern_there; back = refl }

statement_there : (k : StatementForm) → slice_get statement_forms (statement_code k) ≡ Some k
statement_there statement.Local = refl
statement_there k = refl

pub statement_counts : Counts statement_forms statement_code
statement_counts = record { there = statement_there; back = refl }

left_there : (k : LeftForm) → slice_get left_forms (left_code k) ≡ Some k
left_there left.Name = refl
left_there k = refl

pub left_counts : Counts left_forms left_code
left_counts = record { there = left_there; back = refl }

direct_there : (k : DirectForm) → slice_get direct_forms (direct_code k) ≡ Some k
direct_there direct.Label = refl
direct_there k = refl

pub direct_counts : Counts direct_forms direct_code
direct_counts = record { there = direct_there; back = refl }

target_there : (k : TargetForm) → slice_get target_forms (target_code k) ≡ Some k
target_there target.Name = refl
target_there k = refl

pub target_counts : Counts target_forms target_code
target_counts = record { there = target_there; back = refl }

expression_there : (k : ExpressionForm) → slice_get expression_forms (expression_code k) ≡ Some k
expression_there expression.Integer = refl
expression_there k = refl

pub expression_counts : Counts expression_forms expression_code
expression_counts = record { there = expression_there; back = refl }
