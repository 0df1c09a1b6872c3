use Rattle.std.proofs.Common.{◌≡◌, ◌++◌}
use Rattle.sl_tool_generator.specs.Specification.{constructor_lines, definitions}
use Rattle.sl_tool_generator.proofs.specification.generated_specification.Given as goal

abbrev pub invariant-constructors : goal.invariant-constructors
invariant-constructors l = l.text.items ≡ definitions ++ constructor_lines l.number
