use Rattle.std.proofs.Common.{◌≡◌}
use Rattle.sl_tool_generator.specs.Image.{image}
use Rattle.sl_tool_generator.proofs.image.generated_image.Given as goal

abbrev pub invariant-instructions : goal.invariant-instructions
invariant-instructions l = l.image.items ≡ image l.number
