use Rattle.std.proofs.Common.{ap, ◌∙◌}
use Rattle.sl_ast.specs.Views.{space_attribute_of}
use Rattle.sl_spec_registers.specs.SpaceRules.{is_type, kind_in}
use Rattle.sl_spec_registers.proofs.SpaceLemmas.{seen_found}
use Rattle.sl_spec_registers.proofs.spaces.kind_in.Goals as goal

pub returns : goal.returns
returns c = c.kind_of.ensures ∙ ap kind_in (seen_found is_type space_attribute_of c.args.given.now c.first_type.result c.first_type.ensures)
