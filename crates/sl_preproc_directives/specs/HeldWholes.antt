-- view: what is known of names, as the program keeps it.
use Rattle.std.specs.Prelude.{ℕ, List, option_map}
use Rattle.std.specs.BTreeMap.{get_by}
use Rattle.std.specs.Cmp.Lexicographic.{slice_cmp}
use Rattle.std.specs.Ordering.{nat_cmp}
use Rattle.sl_preproc_directives.specs.Wholes as spec
use Rattle.sl_preproc_directives.specs.declared.wholes.Whole.{Whole}
use Rattle.sl_preproc_directives.specs.declared.wholes.Wholes.{Wholes}

abbrev pub whole_of : Whole → ℕ × List ℕ
whole_of w = (w.levels, w.text.items)

abbrev pub wholes_of : Wholes → spec.Wholes
wholes_of d = λ name. option_map whole_of (get_by (λ k. slice_cmp nat_cmp name k.items) d.names)
