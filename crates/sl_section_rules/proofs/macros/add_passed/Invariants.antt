use Rattle.std.proofs.Common.{◌≡◌, drop}
use Rattle.sl_ast.specs.Views.{expressions_of}
use Rattle.sl_section_rules.specs.Macros.{with_passed}
use Rattle.sl_section_rules.proofs.macros.add_passed.Given as goal

-- what is there with the arguments that are left is all
abbrev pub invariant-given : goal.invariant-given
invariant-given l =
    with_passed l.names (drop l.index l.assigned) (expressions_of (drop l.index l.es)) ≡ with_passed l.initial.names l.assigned (expressions_of l.es)
