use Rattle.std.proofs.Common.{[], map}
use Rattle.sl_ast.specs.Views.{member_of as seen}
use Rattle.sl_spec_registers.proofs.FreshLemmas.{AreMade}
use Rattle.sl_spec_definitions.specs.AttachRules.{register_entry}
use Rattle.sl_spec_definitions.proofs.members.register_entries.Given as goal

abbrev pub invariant-members : goal.invariant-members
invariant-members l = AreMade (register_entry l.registers) [] (map seen l.members) l.entries.items l.index
