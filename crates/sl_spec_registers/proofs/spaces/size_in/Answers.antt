use Rattle.std.proofs.Common.{ap, ◌∙◌}
use Rattle.sl_ast.specs.Views.{space_attribute_of}
use Rattle.sl_spec_registers.specs.SpaceRules.{is_size, size_in}
use Rattle.sl_spec_registers.proofs.SpaceLemmas.{seen_found}
use Rattle.sl_spec_registers.proofs.spaces.size_in.Goals as goal

pub returns : goal.returns
returns c = c.size_of.ensures ∙ ap size_in (seen_found is_size space_attribute_of c.args.given.now c.first_size.result c.first_size.ensures)
