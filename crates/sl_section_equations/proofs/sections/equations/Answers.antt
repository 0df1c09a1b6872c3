use Rattle.std.proofs.Common.{List, sym, ap, ◌∙◌, subst}
use Rattle.std.specs.List.{All}
use Rattle.sl_section_flat.specs.Views.{steps_of}
use Rattle.sl_sizes.specs.Solutions.{IsAbout}
use Rattle.sl_sizes.specs.declared.Equation.{Equation}
use Rattle.sl_section_equations.specs.Equations.{section_equations}
use Rattle.sl_section_equations.specs.Known.{address_size, operand_size}
use Rattle.sl_section_equations.proofs.AboutLemmas.{section_about}
use Rattle.sl_section_equations.proofs.sections.equations.Goals as goal

pub returns-clause-about : goal.returns-clause-about
returns-clause-about c =
    let section = c.args.section.now in
    let address = address_size c.args.known.now in
    let operand = operand_size c.args.known.now in
    let is = c.in_ok-equations.ensures ∙ ap (λ ss. section_equations address operand (steps_of ss)) c.as_slice.ensures.value in
    subst (λ (es : List Equation). All (IsAbout section.variables) es) (sym is)
    (section_about section.variables address operand (steps_of section.steps.items) section.numbered)
