-- view: the constructors of tables, as the program keeps them.
use Rattle.std.specs.declared.alloc.Global.{Global}
use Rattle.std.specs.Prelude.{List, Vec, map}
use Rattle.sl_spec.specs.Unfolded.{placed}
use Rattle.sl_spec_tables.specs.Rows as spec
use Rattle.sl_spec_tables.specs.declared.rows.Row.{Row}

abbrev pub row_of : Row → spec.Row
row_of r = (r.ctor.now, placed r.own.now)

abbrev pub rows_of : List Row → List spec.Row
rows_of rs = map row_of rs

abbrev pub groups_of : List (Vec Row Global) → List (List spec.Row)
groups_of gs = map (λ g. rows_of g.items) gs
