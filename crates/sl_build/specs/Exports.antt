-- step: what a section exports, statement by statement.
use Rattle.std.specs.Prelude.{Option, Some, None}
use Rattle.sl_meaning_sections.specs.Nodes.{export_reference}
use Rattle.sl_meaning_sections.specs.References.{Reference, Setting}
use Rattle.sl_meaning_sections.specs.Values.{Frame}
use Rattle.sl_section_flat.specs.Sections as s

-- what a statement exports, if it is an `export`
abbrev pub exports_in : s.Step → Option s.Export
exports_in (s.export what) = Some what
exports_in _ = None

-- what it hands on, or else what the statements behind it do
abbrev pub exported_or : Setting → Frame → Option s.Export → Reference → Reference
exported_or g f None rest = rest
exported_or g f (Some what) rest = export_reference g f what
