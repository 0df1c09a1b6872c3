use Rattle.std.proofs.Common.{◌≡◌, map, take}
use Rattle.std.specs.List.{zip}
use Rattle.sl_section_all.specs.FlatSections.{row_section}
use Rattle.sl_section_all.specs.Views.{flats_of}
use Rattle.sl_section_resolve.specs.MacroViews.{bodies_of}
use Rattle.sl_spec_tables.specs.Views.{rows_of}
use Rattle.sl_section_all.proofs.sections.flat_sections.Given as goal

abbrev pub invariant-rows : goal.invariant-rows
invariant-rows l =
    flats_of l.sections.items ≡ map (row_section l.t (bodies_of l.macros)) (zip (take l.index (rows_of l.rows)) (take l.index l.reaches))
