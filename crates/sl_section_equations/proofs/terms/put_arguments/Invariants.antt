use Rattle.sl_section_equations.specs.Known.{address_size, operand_size}
use Rattle.sl_section_equations.proofs.EquationLemmas.{AreArguments}
use Rattle.sl_section_equations.proofs.terms.put_arguments.Given as goal

abbrev pub invariant-arguments : goal.invariant-arguments
invariant-arguments l =
    AreArguments (address_size l.known) (operand_size l.known) l.initial.out.items l.ts l.out.items l.index
