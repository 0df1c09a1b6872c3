use Rattle.std.proofs.Common.{◌≡◌, drop}
use Rattle.sl_section_flat.specs.Views.{steps_of}
use Rattle.sl_section_equations.specs.Uses as u
use Rattle.sl_section_equations.proofs.uses.are_targets.Given as goal

-- what is left tells of all
abbrev pub invariant-steps : goal.invariant-steps
invariant-steps l =
    let of = u.are_targets (u.flag l.flags) in
    of (steps_of (drop l.step-index l.steps)) ≡ of (steps_of l.steps)
