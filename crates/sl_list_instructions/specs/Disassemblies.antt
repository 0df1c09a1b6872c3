-- view: what a disassembly stands for.
use Rattle.std.specs.Prelude.{◌≡◌, List}
use Rattle.sl_ast.specs.Trees.{Constructor}
use Rattle.sl_ast.specs.Unfolding.{Placed}
use Rattle.sl_decode_choices.specs.Choices.{IsChoiceOf}
use Rattle.sl_decode_choices.specs.Choosers.{chosen}
use Rattle.sl_decode.specs.Disassemblers as decode
use Rattle.sl_list_instructions.specs.declared.disassembly.Disassembly.{Disassembly}
use Rattle.sl_show.specs.Templates.{AreTemplates}
use Rattle.sl_spec.specs.Unfolded.{all_placed}
use Rattle.sl_spec.specs.declared.tables.Tables.{Tables}

-- It decodes and shows the constructors of these tables, and chooses the most specific ones.
pub record StandsFor (d : Disassembly) (t : Tables) (cs : List (Placed Constructor)) : Type 0 where
  pub decodes : decode.StandsFor d.disassembler t cs
  pub shows : AreTemplates t cs d.templates.items
  pub written : all_placed d.constructors.items ≡ cs
  pub chooses : IsChoiceOf t cs (chosen d.disassembler.choosers)
