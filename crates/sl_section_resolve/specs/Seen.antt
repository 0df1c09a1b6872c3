-- step: the steps of the program as those of the definitions.
use Rattle.std.specs.Prelude.{◌≡◌, List, ◌++◌}
use Rattle.sl_section_flat.specs.Sections as s
use Rattle.sl_section_flat.specs.Views.{steps_of}
use Rattle.sl_section_flat.specs.declared.step.Step.{Step}

-- Behind what was there, these steps came.
abbrev pub Adds : (old new : List Step) → List s.Step → Type 0
Adds old new ss = steps_of new ≡ steps_of old ++ ss
