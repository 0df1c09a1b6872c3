use Rattle.std.proofs.Common.{◌≡◌, ◌++◌, drop}
use Rattle.sl_section_flat.specs.Views.{steps_of}
use Rattle.sl_section_equations.specs.Uses as u
use Rattle.sl_section_equations.proofs.uses.assigned.Given as goal

-- what is there and what the steps that are left give is all
abbrev pub invariant-steps : goal.invariant-steps
invariant-steps l =
    l.out.items ++ u.assigned (steps_of (drop l.step-index l.steps)) ≡ u.assigned (steps_of l.steps)
