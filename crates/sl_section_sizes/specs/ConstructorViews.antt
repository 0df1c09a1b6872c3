-- view: flat sections as constructors.
use Rattle.std.specs.Prelude.{List, map}
use Rattle.sl_section_flat.specs.Views.{steps_of}
use Rattle.sl_section_sizes.specs.declared.constructor.Constructor as d
use Rattle.sl_section_sizes.specs.Constructors.{Constructor}

abbrev pub constructor_of : d.Constructor → Constructor
constructor_of c = record {
  table = c.table;
  operands = c.operands.now;
  steps = steps_of c.section.now.steps.items;
  variables = c.section.now.variables;
}

abbrev pub constructors_of : List d.Constructor → List Constructor
constructors_of cs = map constructor_of cs
