-- view: what the program keeps, as the definitions speak of it.
use Rattle.std.specs.Prelude.{option_map}
use Rattle.std.specs.BTreeMap.{get_by}
use Rattle.std.specs.Cmp.Lexicographic.{slice_cmp}
use Rattle.std.specs.Ordering.{nat_cmp}
use Rattle.sl_preproc_directives.specs.Definitions.{Values}
use Rattle.sl_preproc_directives.specs.declared.definitions.Definitions.{Definitions}

abbrev pub values_of : Definitions → Values
values_of d = λ name. option_map (λ v. v.items) (get_by (λ k. slice_cmp nat_cmp name k.items) d.values)
