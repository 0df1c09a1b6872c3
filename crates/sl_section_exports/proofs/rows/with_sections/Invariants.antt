use Rattle.std.proofs.Common.{◌≡◌, take}
use Rattle.std.specs.List.{zip}
use Rattle.sl_spec_tables.specs.Views as all
use Rattle.sl_section_exports.specs.Views.{rows_of, sections_of}
use Rattle.sl_section_exports.proofs.rows.with_sections.Given as goal

abbrev pub invariant-rows : goal.invariant-rows
invariant-rows l = rows_of l.out.items ≡ zip (take l.index (all.rows_of l.rows)) (take l.index (sections_of l.sections))
