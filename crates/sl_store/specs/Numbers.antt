-- view: how the items of an opened specification are numbered.
use Rattle.std.specs.Prelude.{◌≡◌, length}
use Rattle.std.specs.List.{range_with_len}
use Rattle.sl_ast.specs.Views.{indexes_of}
use Rattle.sl_store_write.specs.declared.packed.Packed.{Packed}

-- Each item has its number among all of them, from 0 on, in place of the index of its first token.
abbrev pub AreNumbered : Packed → Type 0
AreNumbered p = indexes_of p.spec ≡ range_with_len 0 (length p.places.items)
