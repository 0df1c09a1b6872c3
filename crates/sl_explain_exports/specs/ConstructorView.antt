-- view: a constructor, as the program keeps it.
use Rattle.std.specs.Prelude.{List, map}
use Rattle.sl_explain_exports.specs.Constructors as spec
use Rattle.sl_explain_exports.specs.declared.constructors.Constructor.{Constructor}

abbrev pub constructor : Constructor → spec.Constructor
constructor c = record { start = c.start; table = c.table.now; exports = c.exports }

abbrev pub constructors : List Constructor → List spec.Constructor
constructors cs = map constructor cs
