-- step: what is due in a file's name, and the bytes of a vector.
use Rattle.std.specs.Prelude.{List, Vec}
use Rattle.std.specs.declared.alloc.Global.{Global}
use Rattle.sl_store_format.specs.FileNames.{Due, due}
use Rattle.sl_store_read.specs.declared.files.Due as program

abbrev pub due_of : program.Due → Due
due_of d = due d.owed d.low d.high

abbrev pub items_in : {A : Type 0} → Vec A Global → List A
items_in v = v.items
