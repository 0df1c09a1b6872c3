use Rattle.std.proofs.Common.{◌≡◌, [], drop, fold}
use Rattle.sl_ast.specs.Views.{statements_of}
use Rattle.sl_section_rules.specs.Macros.{with_assigned}
use Rattle.sl_section_rules.proofs.macros.assigned_names.Given as goal

-- what is there with the statements that are left is all
abbrev pub invariant-body : goal.invariant-body
invariant-body l =
    let adds = with_assigned l.macros in
    fold adds l.names (statements_of (drop l.index l.body)) ≡ fold adds [] (statements_of l.body)
