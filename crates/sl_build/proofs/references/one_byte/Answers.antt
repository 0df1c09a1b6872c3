use Rattle.std.proofs.Common.{rules, ◌≡◌, ap, ◌∙◌, arith}
use Rattle.std.proofs.lemmas.Grind.{common_steps}
use Rattle.sl_section_equations.proofs.EquationLemmas.{size_is}
use Rattle.sl_section_equations.specs.Equations.{size_at}
use Rattle.sl_build.proofs.references.one_byte.Goals as goal

pub returns : goal.returns
returns c =
    let e : c.unwrap.result.bytes ≡ 1 = grind (arith, common_steps) in
    size_is c.unwrap.result ∙ ap size_at e
