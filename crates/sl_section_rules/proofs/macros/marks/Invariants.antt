use Rattle.std.proofs.Common.{◌≡◌, ◌++◌, map, drop}
use Rattle.sl_ast.specs.Views.{bytes}
use Rattle.sl_spec_rules.specs.Names.{is_among}
use Rattle.sl_section_rules.proofs.macros.marks.Given as goal

-- what is there with what is left is all
abbrev pub invariant-parameters : goal.invariant-parameters
invariant-parameters l =
    l.marks.items ++ map (is_among l.assigned) (map bytes (drop l.index l.parameters)) ≡ map (is_among l.assigned) (map bytes l.parameters)
