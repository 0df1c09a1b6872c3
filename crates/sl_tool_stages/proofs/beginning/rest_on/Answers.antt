use Rattle.std.proofs.Common.{arith}
use Rattle.sl_ast.specs.Views.{items_of}
use Rattle.sl_list_instructions.proofs.AcceptedLemmas.{aligned}
use Rattle.sl_tool_stages.proofs.beginning.rest_on.Goals as goal

pub nonzero_rem-assembly : goal.nonzero_rem-assembly
nonzero_rem-assembly c =
    let bound = c.args.compiled.now.specification.bound in
    omega (arith, c.from.ensures, aligned (items_of bound.spec) bound.tables c.requires.compiles)
