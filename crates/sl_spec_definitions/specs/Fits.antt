-- step: bits of a field that lie within what a type holds.
use Rattle.std.specs.Prelude.{◌&&◌, Bool, nat_le, List}
use Rattle.std.specs.List.{list_all}
use Rattle.sl_ast.specs.Trees as tree
use Rattle.sl_spec_definitions.specs.FieldRules.{is_in_order}

abbrev pub fits : tree.Field → Bool
fits f = is_in_order f && nat_le f.high 63

abbrev pub all_fit : List tree.Field → Bool
all_fit fs = list_all fits fs
