-- view: what is told of rules 38 and 39.
use Rattle.std.specs.Prelude.{◌≡◌, List, Some, None}
use Rattle.sl_ast.specs.Trees.{Constructor}
use Rattle.sl_ast.specs.Unfolding.{Placed}
use Rattle.sl_section_all.specs.FlatSections.{flat_sections, sections_fault}
use Rattle.sl_section_all.specs.Scopes.{Scopes}
use Rattle.sl_section_all.specs.Views.{flats_of}
use Rattle.sl_section_all.specs.declared.judge.Judged.{Judged}
use Rattle.sl_section_all.specs.declared.judge.Judged.TheVariants.{Broken, Kept}
use Rattle.sl_spec.specs.declared.tables.Tables.{Tables}

-- This is the first broken one of the two rules; or both hold, and these are the flat sections.
abbrev pub Judges : Tables → Scopes → List (Placed Constructor) → Judged → Type 0
Judges t s cs (Broken fault) = sections_fault t s cs ≡ Some fault
Judges t s cs (Kept sections) = (sections_fault t s cs ≡ None)
    × (flats_of sections.items ≡ flat_sections t s cs)
