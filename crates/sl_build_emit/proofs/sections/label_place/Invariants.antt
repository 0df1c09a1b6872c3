use Rattle.std.proofs.Common.{◌≡◌, drop}
use Rattle.sl_build_emit.specs.Views.{scan}
use Rattle.sl_section_flat.specs.Views.{label_of}
use Rattle.sl_build_template.specs.Views.{parts_of}
use Rattle.sl_build_emit.proofs.sections.label_place.Given as goal

abbrev pub invariant-parts : goal.invariant-parts
invariant-parts l = scan (parts_of (drop l.index l.parts)) (drop l.index l.lengths) (label_of l.l) l.place ≡ scan (parts_of l.parts) l.lengths (label_of l.l) 0
