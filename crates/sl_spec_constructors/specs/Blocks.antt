-- step: what the head of a block gives to the constructors inside.
use Rattle.std.specs.Prelude.{unwrap_or}
use Rattle.sl_ast.specs.Trees.{Head}
use Rattle.sl_spec_rules.specs.Names.{Name}

-- its table, or else that of the blocks round it
abbrev pub table_inside : Head → Name → Name
table_inside h outer = unwrap_or h.table outer
