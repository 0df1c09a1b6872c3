-- view: constructors with their sections, as the program keeps them.
use Rattle.std.specs.Prelude.{ℕ, List, map}
use Rattle.sl_section_flat.specs.Sections.{Step}
use Rattle.sl_section_flat.specs.Views.{steps_of}
use Rattle.sl_section_flat.specs.declared.section.Section.{Section}
use Rattle.sl_spec_tables.specs.Views as all
use Rattle.sl_section_exports.specs.Exports as spec
use Rattle.sl_section_exports.specs.declared.rows.Sectioned.{Sectioned}

abbrev pub steps_in : Section → List Step
steps_in s = steps_of s.steps.items

abbrev pub sections_of : List Section → List (List Step)
sections_of ss = map steps_in ss

abbrev pub row_of : Sectioned → spec.Row
row_of r = (all.row_of r.row, steps_in r.section.now)

abbrev pub rows_of : List Sectioned → List spec.Row
rows_of rs = map row_of rs
