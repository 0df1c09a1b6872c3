use Rattle.std.proofs.Common.{◌≡◌, drop}
use Rattle.sl_section_flat.specs.Views.{steps_of}
use Rattle.sl_section_equations.specs.Uses as u
use Rattle.sl_section_equations.proofs.exports.exported_variable.Given as goal

-- what is left tells of all
abbrev pub invariant-steps : goal.invariant-steps
invariant-steps l =
    u.exported_variable (steps_of (drop l.step-index l.steps)) ≡ u.exported_variable (steps_of l.steps)
