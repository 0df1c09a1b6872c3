-- view: where an expression stands.
use Rattle.sl_ast.specs.Operators.{Kind, in_section, in_action, in_constraint}
use Rattle.sl_parse_phrases.specs.declared.operators.Kind as k
use Rattle.sl_parse_phrases.specs.declared.operators.Kind.TheVariants as v

-- where an expression stands, as the definitions have it
abbrev pub kind_of : k.Kind → Kind
kind_of v.Section = in_section
kind_of v.Action = in_action
kind_of v.Constraint = in_constraint
