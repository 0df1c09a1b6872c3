use Rattle.std.proofs.Common.{◌≡◌, drop}
use Rattle.sl_section_flat.specs.Views.{steps_of}
use Rattle.sl_sizes.specs.Solutions.{bytes_at}
use Rattle.sl_section_equations.specs.Fits as f
use Rattle.sl_section_equations.specs.Known.{operand_size}
use Rattle.sl_section_equations.proofs.fits.section_fits.Given as goal

-- what is left tells of all
abbrev pub invariant-steps : goal.invariant-steps
invariant-steps l =
    let of = f.section_fits (bytes_at l.sizes) (operand_size l.known) in
    of (steps_of (drop l.step-index l.steps)) ≡ of (steps_of l.steps)
