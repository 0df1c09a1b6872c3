use Rattle.std.proofs.Common.{◌≡◌, [], drop, fold, map}
use Rattle.sl_ast.specs.Views.{bytes}
use Rattle.sl_section_rules.specs.Scopes.{with_parameter}
use Rattle.sl_section_rules.proofs.scopes.macro_scope.Given as goal

-- what is there with the parameters that are left is all
abbrev pub invariant-parameters : goal.invariant-parameters
invariant-parameters l =
    fold with_parameter l.own (map bytes (drop l.index l.parameters)) ≡ fold with_parameter [] (map bytes l.parameters)
