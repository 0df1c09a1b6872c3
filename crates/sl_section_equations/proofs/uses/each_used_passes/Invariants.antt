use Rattle.std.proofs.Common.{◌≡◌, drop}
use Rattle.sl_section_flat.specs.Views.{steps_of}
use Rattle.sl_section_equations.specs.Uses as u
use Rattle.sl_section_equations.proofs.uses.each_used_passes.Given as goal

-- what is left tells of all
abbrev pub invariant-steps : goal.invariant-steps
invariant-steps l =
    let of = u.each_used_passes (u.flag l.flags) in
    of (steps_of (drop l.step-index l.steps)) ≡ of (steps_of l.steps)
