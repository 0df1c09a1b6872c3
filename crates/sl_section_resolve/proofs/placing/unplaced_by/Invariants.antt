use Rattle.std.proofs.Common.{◌≡◌, ◌++◌, drop}
use Rattle.sl_section_flat.specs.Views.{steps_of}
use Rattle.sl_section_resolve.specs.Steps.{unplaced}
use Rattle.sl_section_resolve.proofs.placing.unplaced_by.Given as goal

-- what is there and what the operands that are left give is all
abbrev pub invariant-operands : goal.invariant-operands
invariant-operands l =
    steps_of l.out.items ++ unplaced l.names l.index (drop l.index l.operands) ≡ unplaced l.names 0 l.operands
