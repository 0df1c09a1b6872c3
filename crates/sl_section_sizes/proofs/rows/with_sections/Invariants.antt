use Rattle.std.proofs.Common.{◌≡◌, map, take}
use Rattle.std.specs.List.{zip}
use Rattle.sl_section_all.specs.Views.{flats_of}
use Rattle.sl_section_sizes.specs.Ordering.{with_section}
use Rattle.sl_section_sizes.specs.ConstructorViews.{constructors_of}
use Rattle.sl_section_sizes.proofs.rows.with_sections.Given as goal

abbrev pub invariant-ctors : goal.invariant-ctors
invariant-ctors l = constructors_of l.all.items ≡ map (λ r. with_section r.0 r.1) (zip (take l.index l.ctors) (take l.index (flats_of l.sections)))
