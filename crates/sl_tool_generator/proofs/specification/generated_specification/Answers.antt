use Rattle.std.proofs.Common.{◌≡◌, ◌++◌, ◌∙◌, ap, arith}
use Rattle.sl_tool_generator.specs.Specification.{constructor_lines, definitions}
use Rattle.sl_tool_generator.proofs.specification.generated_specification.Goals as goal

pub returns : goal.returns
returns c =
    let all : c.constructors.number ≡ 64 = omega (arith, c.constructors.auto.number-end, c.constructors-test.false) in
    c.constructors.invariant ∙ ap (λ n. definitions ++ constructor_lines n) all
