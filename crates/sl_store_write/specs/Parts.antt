-- law: packed specifications of the program.
use Rattle.std.specs.Prelude.{List, map}
use Rattle.std.specs.String.{string_bytes}
use Rattle.std.specs.declared.alloc.Global.{Global}
use Rattle.std.specs.declared.string.String.{String}
use Rattle.sl_ast.specs.Views.{item_of, items_of}
use Rattle.sl_ast.specs.declared.items.Item.{Item}
use Rattle.sl_preproc.specs.declared.places.Place.{Place}
use Rattle.sl_store_write.specs.declared.packed.Packed as program
use Rattle.sl_store_format.specs.Packed.{Packed}

-- the specification with these files, places and items
abbrev pub parts_of : List (String Global) → List Place → List Item → Packed
parts_of files places items = record { files = map string_bytes files; places = places; items = map item_of items }

-- without the indexes of first tokens
abbrev pub packed_of : program.Packed → Packed
packed_of p = record { files = map string_bytes p.files.items; places = p.places.items; items = items_of p.spec }
