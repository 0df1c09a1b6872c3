use Rattle.std.proofs.Common.{◌≡◌, drop, fold, map}
use Rattle.sl_ast.specs.Views.{bytes}
use Rattle.sl_section_resolve.specs.Steps.{with_name}
use Rattle.sl_section_rules.proofs.whole_text.add_all.Given as goal

-- what is there with the names that are left is all
abbrev pub invariant-names : goal.invariant-names
invariant-names l = fold with_name l.all (map bytes (drop l.index l.names)) ≡ fold with_name l.initial.all (map bytes l.names)
