-- view: what is defined, and flat sections, as the program keeps them.
use Rattle.std.specs.Prelude.{List, map}
use Rattle.sl_section_resolve.specs.MacroViews.{bodies_of}
use Rattle.sl_section_flat.specs.Views.{steps_of}
use Rattle.sl_section_flat.specs.declared.section.Section.{Section}
use Rattle.sl_section_all.specs.FlatSections.{Flat}
use Rattle.sl_section_all.specs.Scopes as spec
use Rattle.sl_section_all.specs.declared.scopes.Scopes.{Scopes}

abbrev pub scopes_view : Scopes → spec.Scopes
scopes_view s = record { reach = s.reach; macros = bodies_of s.macros; reaches = s.reaches.items }

abbrev pub flat_of : Section → Flat
flat_of s = record { steps = steps_of s.steps.items; variables = s.variables }

abbrev pub flats_of : List Section → List Flat
flats_of ss = map flat_of ss
