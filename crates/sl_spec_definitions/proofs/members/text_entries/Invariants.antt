use Rattle.std.proofs.Common.{[], map, option_map}
use Rattle.sl_ast.specs.Views.{member_of as seen}
use Rattle.sl_spec_registers.proofs.FreshLemmas.{AreMade}
use Rattle.sl_spec_definitions.specs.AttachRules.{text_entry}
use Rattle.sl_spec_definitions.proofs.members.text_entries.Given as goal

abbrev pub invariant-members : goal.invariant-members
invariant-members l = AreMade text_entry [] (map seen l.members) (map (λ e. option_map (λ t. t.now) e) l.entries.items) l.index
