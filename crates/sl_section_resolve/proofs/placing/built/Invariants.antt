use Rattle.std.proofs.Common.{◌≡◌, [], drop, fold}
use Rattle.sl_ast.specs.Views.{statements_of}
use Rattle.sl_section_resolve.specs.Steps.{with_built}
use Rattle.sl_section_resolve.proofs.placing.built.Given as goal

-- what is there with the statements that are left is all
abbrev pub invariant-body : goal.invariant-body
invariant-body l =
    fold with_built l.names (statements_of (drop l.index l.body)) ≡ fold with_built [] (statements_of l.body)
