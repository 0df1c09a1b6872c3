use Rattle.std.proofs.Common.{[], map}
use Rattle.sl_ast.specs.Views.{member_of as seen}
use Rattle.sl_spec_registers.proofs.FreshLemmas.{AreMade}
use Rattle.sl_spec_definitions.specs.AttachRules.{value_entry}
use Rattle.sl_spec_definitions.proofs.members.value_entries.Given as goal

abbrev pub invariant-members : goal.invariant-members
invariant-members l = AreMade value_entry [] (map seen l.members) l.entries.items l.index
