use Rattle.std.proofs.Common.{◌≡◌, ◌++◌, drop}
use Rattle.sl_section_flat.specs.Views.{steps_of}
use Rattle.sl_section_equations.specs.Equations.{section_equations}
use Rattle.sl_section_equations.specs.Known.{address_size, operand_size}
use Rattle.sl_section_equations.proofs.sections.equations_of.Given as goal

-- what is there and what the steps that are left give is all
abbrev pub invariant-steps : goal.invariant-steps
invariant-steps l =
    let of = section_equations (address_size l.known) (operand_size l.known) in
    l.out.items ++ of (steps_of (drop l.step-index l.steps)) ≡ of (steps_of l.steps)
