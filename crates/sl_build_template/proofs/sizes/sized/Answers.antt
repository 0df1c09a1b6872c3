use Rattle.std.proofs.Common.{◌≡◌, ap, ◌∙◌, arith}
use Rattle.std.proofs.lemmas.Grind.{common_steps}
use Rattle.sl_section_equations.proofs.EquationLemmas.{size_is}
use Rattle.sl_section_equations.specs.Equations.{size_at}
use Rattle.sl_build_template.proofs.sizes.sized.Goals as goal

pub returns-clause-value : goal.returns-clause-value
returns-clause-value c =
    let e : c.unwrap.result.bytes ≡ c.args.n = grind (arith, common_steps) in
    size_is c.unwrap.result ∙ ap size_at e
