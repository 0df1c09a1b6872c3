-- view: what is attached to a field, as the program keeps it.
use Rattle.std.specs.Prelude.{map, option_map}
use Rattle.sl_spec.specs.Tables as spec
use Rattle.sl_spec.specs.declared.definitions.Entries.{Entries}
use Rattle.sl_spec.specs.declared.definitions.Entries.TheVariants.{Registers, Texts, Values}

abbrev pub entries_of : Entries → spec.Entries
entries_of (Registers ids) = spec.registers ids.items
entries_of (Texts names) = spec.texts (map (λ name. option_map (λ n. n.now) name) names.items)
entries_of (Values numbers) = spec.values numbers.items
